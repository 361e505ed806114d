-- The children of a node, and the reads of an expression's subtree.
use mathlib.Core.Path.{◌≡◌, refl, ◌∙◌}
use mathlib.Core.Logic.{◌↔◌, ⊎_elim}
use mathlib.Core.Bool.{Bool, true, false}
use mathlib.Core.List.Memᴰ
use mathlib.Core.List.{List, [], ◌∷◌}
use Prim.Native.Nat.{ℕ, zero, suc, ◌+◌, ◌-◌, ◌≤◌, ◌<◌}
use native.Mathlib.Omega.{arith}
use native.Mathlib.Decide.{dec_lt, ℕ_discrete}
use lib.Dec.{eqb}
use lib.ListN.{length}
use borrow.Author.Tests.{eqb-true, eqb-false, eq-eqb, ne_eqb}
use Rattle.varset.specs.Lowest.{pick}
use Rattle.varset.specs.Sets.{Set}
use Rattle.records.proofs.Children.{length-walk}
use Rattle.records.specs.Fields.{functions, count_of, kind_at, a_at, b_at, size_at}
use Rattle.records.specs.Parts.{part_of}
use Rattle.records.specs.Children.{arities, arity_of, arity_at, walk, children}
use Rattle.spec_language.specs.Sorts.{is_expression, wants_expression}
use Rattle.spec_language.specs.Statements.{prior, last, read, reads_from, reads_of}
use Rattle.spec_language.specs.Nodes.{total, misplaced}
use Rattle.spec_language.proofs.Accept.{Accepted}
use Rattle.spec_language.proofs.Tiles.{Tiles, none, more, Sizes, size_fits, tiled, Each, descend, nested}
use Rattle.spec_language.proofs.KindLists.{expression_wants}
use Rattle.spec_language.proofs.Typings.{nth}
use Rattle.spec_language.proofs.Positions.{each_nth, sizes, child_placed}
use Rattle.spec_language.proofs.Flows.{Reads, Listed, reads_listed, listed_reads}

-- ---- children

-- node c is a child of node i
pub record Child (t : List ℕ) (i c : ℕ) : Type 0 where
  pub below : c < i
  pub some : 1 ≤ size_at t c
  pub inside : i + size_at t c ≤ c + size_at t i
  -- a node between them holds no node of the child's subtree
  pub apart : (d : ℕ) → c < d → d < i → c + size_at t d ≤ d

each_map : {P Q : ℕ → Type 0} (cs : List ℕ) → ((c : ℕ) → P c → Q c) → Each P cs → Each Q cs
each_map [] h e = tt
each_map (c ∷ cs) h e = (h c e.0, each_map cs h e.1)

-- a child of tiles that end before hi
record Tile (t : List ℕ) (hi lo c : ℕ) : Type 0 where
  below : c < hi
  some : 1 ≤ size_at t c
  low : lo + size_at t c ≤ c + 1
  apart : (d : ℕ) → c < d → d < hi → c + size_at t d ≤ d

module _ (t : List ℕ) (n : ℕ) (ok : Sizes t n) where
  tiles_low : {hi lo : ℕ} {cs : List ℕ} → Tiles (size_at t) hi lo cs → lo ≤ hi
  tiles_low none = omega arith
  tiles_low (more p q r w) = omega (arith, tiles_low w)

  tile_up : (mid hi lo c : ℕ) → hi ≤ n → c + 1 ≡ hi → mid + size_at t c ≡ hi → (b : ℕ) → Tile t mid lo b → Tile t hi lo b
  tile_up mid hi lo c l p q b w =
      record { below = omega (arith, w.below); some = w.some; low = w.low; apart = λ d k m. go d k m (dec_lt d mid) }
    where
      go : (d : ℕ) → b < d → d < hi → Dec (d < mid) → b + size_at t d ≤ d
      go d k m (yes y) = w.apart d k y
      go d k m (no y) = omega (arith, w.below, nested t n ok mid c d (omega arith) (omega arith) (omega arith) (omega arith))

  tile_each : {hi lo : ℕ} {cs : List ℕ} → hi ≤ n → Tiles (size_at t) hi lo cs → Each (Tile t hi lo) cs
  tile_each l none = tt
  tile_each {hi} {lo} l (more {mid = mid} {c = c} {cs = cs} p q r w) = (
    record { below = omega arith; some = r; low = omega (arith, tiles_low w); apart = λ d k m. absurd (omega arith) },
    each_map cs (tile_up mid hi lo c l p q) (tile_each (omega arith) w),
  )

  -- child k, counted from the left
  pub child_of : (i k : ℕ) → i < n → k < arity_at t i → Child t i (nth k (children t i))
  unfolding children
  child_of i k p q =
      let w = each_nth (Tile t i (i + 1 - size_at t i)) (children t i) (tile_each (omega arith) (tiled t n ok i p)) k (rw (length-walk (size_at t) (arity_at t i) (i - 1)) q) in
      let z = size_fits t n ok i p in
      record { below = w.below; some = w.some; inside = omega (arith, w.low); apart = w.apart }

-- the child j before the one at c
abbrev pub back : List ℕ → ℕ → ℕ → ℕ
back t zero c = c
back t (suc j) c = back t j (prior t c)

nth_here : (c : ℕ) (cs : List ℕ) (m : ℕ) → m ≡ length cs → nth m (c ∷ cs) ≡ c
unfolding nth
nth_here c cs m e = rw (eq-eqb m (length cs) e)

nth_past : (c : ℕ) (cs : List ℕ) (m : ℕ) → (m ≡ length cs → ⊥) → nth m (c ∷ cs) ≡ nth m cs
unfolding nth
nth_past c cs m e = rw (ne_eqb m (length cs) e)

nth_walk : (t : List ℕ) (arity j m c : ℕ) → arity ≡ 1 + j + m → nth m (walk (size_at t) arity c) ≡ back t j c
unfolding walk prior
nth_walk t zero j m c e = absurd (omega arith)
nth_walk t (suc k) zero m c e = nth_here c (walk (size_at t) k (c - size_at t c)) m (omega (arith, length-walk (size_at t) k (c - size_at t c)))
nth_walk t (suc k) (suc j) m c e =
    nth_past c (walk (size_at t) k (c - size_at t c)) m (λ q. omega (arith, length-walk (size_at t) k (c - size_at t c)))
    ∙ nth_walk t k j m (c - size_at t c) (omega arith)

-- child m of a node is the one with j after it
pub nth_child : (t : List ℕ) (i j m : ℕ) → arity_at t i ≡ 1 + j + m → nth m (children t i) ≡ back t j (last i)
unfolding children last
nth_child t i j m e = nth_walk t (arity_at t i) j m (i - 1) e

-- the child of a node of a known kind that has m before it and j after it
pub child_at : (t : List ℕ) (n : ℕ) → Sizes t n → (i kind j m : ℕ) → i < n → kind_at t i ≡ kind → arity_of kind (a_at t i) ≡ 1 + j + m → Child t i (back t j (last i))
unfolding arity_at
child_at t n ok i kind j m p e a =
    let b : arity_at t i ≡ 1 + j + m = rw e a in
    rw (nth_child t i j m b) at (child_of t n ok i m p (omega arith))

-- ---- the reads of an expression

-- a read of x at node j of the subtree of e
pub record ReadIn (t : List ℕ) (e j x : ℕ) : Type 0 where
  pub above : j ≤ e
  pub near : e < j + size_at t e
  pub kind : kind_at t j ≡ 2
  pub variable : b_at t j ≡ x

-- a read of x at one of m nodes from i on
abbrev ReadFrom : List ℕ → ℕ → ℕ → ℕ → ℕ → Type 0
ReadFrom t m i j x = (i ≤ j) × (j < i + m) × (kind_at t j ≡ 2) × (b_at t j ≡ x)

module _ (t : List ℕ) (j x : ℕ) where
  listed_from : (m i : ℕ) → Listed j x (reads_from t m i) → ReadFrom t m i j x
  unfolding reads_from
  listed_from zero i l = absurd (Memᴰ.not-nil l)
  listed_from (suc m) i l = go (eqb (kind_at t i) 2) refl l (listed_from m (suc i))
    where
      here : kind_at t i ≡ 2 → read j x ≡ read i (b_at t i) → ReadFrom t (suc m) i j x
      here k e =
          let p : j ≡ i = cc in
          let q : b_at t i ≡ x = cc in
          (omega arith, omega arith, rw p k, rw p q)

      there : ReadFrom t m (suc i) j x → ReadFrom t (suc m) i j x
      there r = (omega (arith, r.0), omega (arith, r.1), r.2, r.3)

      go : (b : Bool) → eqb (kind_at t i) 2 ≡ b → Listed j x (pick b (read i (b_at t i) ∷ reads_from t m (suc i)) (reads_from t m (suc i)))
          → (Listed j x (reads_from t m (suc i)) → ReadFrom t m (suc i) j x) → ReadFrom t (suc m) i j x
      go true k l r = ⊎_elim (here (eqb-true _ _ k)) (λ w. there (r w)) (Memᴰ.cases_cons l)
      go false k l r = there (r l)

  from_listed : (m i : ℕ) → ReadFrom t m i j x → Listed j x (reads_from t m i)
  unfolding reads_from
  from_listed zero i r = absurd (omega (arith, r.0, r.1))
  from_listed (suc m) i r = go (eqb (kind_at t i) 2) refl (λ l. from_listed m (suc i) (l, omega (arith, r.1), r.2, r.3)) (ℕ_discrete j i)
    where
      go : (b : Bool) → eqb (kind_at t i) 2 ≡ b → (suc i ≤ j → Listed j x (reads_from t m (suc i))) → Dec (j ≡ i)
          → Listed j x (pick b (read i (b_at t i) ∷ reads_from t m (suc i)) (reads_from t m (suc i)))
      go true k rest (yes e) = let q : b_at t i ≡ x = rw e at r.3 in Memᴰ.head {x = read i (b_at t i)} (rw (e, q))
      go true k rest (no e) = Memᴰ.tail (rest (omega (arith, r.0)))
      go false k rest (yes e) = absurd (eqb-false (kind_at t i) 2 k (rw e at r.2))
      go false k rest (no e) = rest (omega (arith, r.0))

  -- the reads listed are those at the nodes of the subtree
  pub listed_is : (e : ℕ) → size_at t e ≤ e + 1 → Listed j x (reads_of t e) ↔ ReadIn t e j x
  unfolding reads_of
  listed_is e z = (there, λ r. from_listed (size_at t e) (e + 1 - size_at t e) (omega (arith, r.near), omega (arith, r.above), r.kind, r.variable))
    where
      there : Listed j x (reads_from t (size_at t e) (e + 1 - size_at t e)) → ReadIn t e j x
      there l =
          let r = listed_from (size_at t e) (e + 1 - size_at t e) l in
          record { above = omega (arith, r.1); near = omega (arith, r.0); kind = r.2; variable = r.3 }

module _ (t : List ℕ) (d : Set) (e : ℕ) where
  -- Reads, node by node
  pub reads_nodes_lem : size_at t e ≤ e + 1 → Reads (reads_of t e) d ↔ ((j : ℕ) → j ≤ e → e < j + size_at t e → kind_at t j ≡ 2 → d (b_at t j) ≡ true)
  reads_nodes_lem z = (
    λ r j a b k. reads_listed j (b_at t j) (reads_of t e) d r ((listed_is t j (b_at t j) e z).1 (record { above = a; near = b; kind = k; variable = refl })),
    λ h. listed_reads (reads_of t e) d (λ j x l. let w = (listed_is t j x e z).0 l in rw (← w.variable) (h j w.above w.near w.kind)),
  )

module _ (t : List ℕ) (n : ℕ) (ok : Sizes t n) where
  -- the reads of a node of a subtree are among the subtree's
  pub listed_up : (i c j x : ℕ) → i < n → c ≤ i → i < c + size_at t i → Listed j x (reads_of t c) → Listed j x (reads_of t i)
  listed_up i c j x p a b l =
      let z = size_fits t n ok i p in
      let w = (listed_is t j x c (size_fits t n ok c (omega arith))).0 l in
      let m : i + 1 - size_at t i + size_at t c ≤ c + 1 = nested t n ok (i + 1 - size_at t i) i c p (omega arith) a b in
      (listed_is t j x i z).1 (record { above = omega (arith, w.above); near = omega (arith, w.near); kind = w.kind; variable = w.variable })

  pub reads_down : (i c : ℕ) (d : Set) → i < n → c ≤ i → i < c + size_at t i → Reads (reads_of t i) d → Reads (reads_of t c) d
  reads_down i c d p a b r = listed_reads (reads_of t c) d (λ j x l. reads_listed j x (reads_of t i) d r (listed_up i c j x p a b l))

  -- so are those of a child
  pub reads_child : (i c : ℕ) (d : Set) → i < n → Child t i c → Reads (reads_of t i) d → Reads (reads_of t c) d
  reads_child i c d p w = reads_down i c d p (omega (arith, w.below)) (omega (arith, w.inside, w.some))

  -- a leaf is its whole subtree
  pub leaf_size : (i : ℕ) → i < n → arity_at t i ≡ 0 → size_at t i ≡ 1
  unfolding children walk total
  leaf_size i p e = rw e at (ok i p).size

  -- an evaluated variable's read is its own
  pub reads_variable : (i : ℕ) → i < n → kind_at t i ≡ 2 → reads_of t i ≡ read i (b_at t i) ∷ []
  unfolding reads_of reads_from arity_at arity_of arities
  reads_variable i p e =
      let z : i + 1 - 1 ≡ i = omega arith in
      rw (leaf_size i p (rw e), z, e)

-- ---- the sort of an expression's subtree

nth_each : (Q : ℕ → Type 0) (cs : List ℕ) → ((k : ℕ) → k < length cs → Q (nth k cs)) → Each Q cs
nth_each Q [] h = tt
nth_each Q (c ∷ cs) h = (
  rw (nth_here c cs (length cs) refl) at (h (length cs) (omega arith)),
  nth_each Q cs (λ k l. rw (nth_past c cs k (λ e. omega arith)) at (h k (omega arith))),
)

module _ (t : List ℕ) (n : ℕ) (ok : Sizes t n) (h : (i : ℕ) → i < n → misplaced t n i ≡ false) where
  -- every node of an expression's subtree is an expression
  pub tree_placed : (e j : ℕ) → e < n → is_expression (kind_at t e) ≡ true → j ≤ e → e < j + size_at t e → is_expression (kind_at t j) ≡ true
  tree_placed e j p =
      descend t n ok (λ c. is_expression (kind_at t c) ≡ true)
      (λ i p q. nth_each (λ c. is_expression (kind_at t c) ≡ true) (children t i) (λ k m. child_placed t n ok h i k p (arity_of_lem i k m) ∙ expression_wants k (kind_at t i) q)) e j p
    where
      arity_of_lem : (i k : ℕ) → k < length (children t i) → k < arity_at t i
      arity_of_lem i k m = unfold children in (rw (length-walk (size_at t) (arity_at t i) (i - 1)) at m)

  -- the sort of the child of a node of a known kind that has m before it and j after it
  pub kid-placed : (i kind j m : ℕ) → i < n → kind_at t i ≡ kind → arity_of kind (a_at t i) ≡ 1 + j + m
      → is_expression (kind_at t (back t j (last i))) ≡ wants_expression kind m
  unfolding arity_at
  kid-placed i kind j m p e a =
      let b : arity_at t i ≡ 1 + j + m = rw e a in
      let w : is_expression (kind_at t (nth m (children t i))) ≡ wants_expression kind m = rw e at (child_placed t n ok h i m p (omega arith)) in
      rw (nth_child t i j m b) at w

module _ (s : List ℕ) (h : Accepted s) (f : ℕ) (l : f < functions s) where
  abbrev t : List ℕ
  t = part_of s f

  pub expression_tree : (e j : ℕ) → e < count_of s f → is_expression (kind_at t e) ≡ true → j ≤ e → e < j + size_at t e → is_expression (kind_at t j) ≡ true
  expression_tree = tree_placed t (count_of s f) (sizes s h f l) (λ i p. h.nine f i l p)

  pub sort_at : (i kind j m : ℕ) → i < count_of s f → kind_at t i ≡ kind → arity_of kind (a_at t i) ≡ 1 + j + m
      → is_expression (kind_at t (back t j (last i))) ≡ wants_expression kind m
  sort_at = kid-placed t (count_of s f) (sizes s h f l) (λ i p. h.nine f i l p)
