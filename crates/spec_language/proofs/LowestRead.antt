-- What question 13 finds in a statement is the lowest read of a variable without a value.
use Rattle.std.specs.Prelude.{Some, Option, None}
use mathlib.Core.Path.{◌≡◌, refl}
use mathlib.Core.Logic.{◌⊎◌, inl, inr, ⊎_elim}
use mathlib.Core.Bool.{Bool, true, false}
use mathlib.Core.List.Memᴰ
use mathlib.Core.List.{List, ◌∷◌}
use Prim.Native.Nat.{ℕ, zero, suc, ◌+◌, ◌-◌, ◌≤◌, ◌<◌}
use native.Mathlib.Omega.{arith}
use native.Mathlib.Nat.{le_refl, le_trans}
use native.Mathlib.Decide.{ℕ_discrete}
use lib.Dec.{eqb}
use Rattle.varset.specs.Lowest.{pick}
use Rattle.varset.specs.Sets.{Set, without}
use Rattle.records.specs.Fields.{kind_at, a_at, b_at, size_at}
use Rattle.records.specs.Search.{At, or_else}
use Rattle.records.specs.Children.{arities, arity_of}
use Rattle.records.specs.declared.Found.{Found}
use Rattle.records.proofs.Bools.{clash}
use Rattle.spec_language.specs.Statements.{Read, read, reads_from, reads_of, prior, last, Statement, Nop, Seq, Assign, Decl, If, While, Return, Assert, Expr, statement_at}
use Rattle.spec_language.specs.Flow.{leaves, missing, lacks}
use Rattle.spec_language.proofs.Flows.{Listed}
use Rattle.spec_language.proofs.Tiles.{Sizes, size_fits}
use Rattle.spec_language.proofs.Trees.{by_kind}
use Rattle.spec_language.proofs.Subtrees.{Child, back, child_at}
use Rattle.spec_language.proofs.Scoping.{strongly}

-- ---- what lacks its value

-- node k is one of these reads, and its variable is not in d
pub record Empty (rs : List Read) (d : Set) (k : ℕ) : Type 0 where
  pub variable : ℕ
  pub listed : Listed k variable rs
  pub empty : d variable ≡ false

-- node k is a read in a statement of a variable that is not in the set that reaches it; such a read stops nothing
abbrev pub Lacks : Statement → Set → ℕ → Type 0
Lacks Nop d k = ⊥
Lacks (Seq s t) d k = Lacks s d k ⊎ Lacks t (leaves s d) k
Lacks (Assign x e) d k = Empty e d k
Lacks (Decl x s) d k = Lacks s (without d x) k
Lacks (If e s t) d k = Empty e d k ⊎ (Lacks s d k ⊎ Lacks t d k)
Lacks (While e s) d k = Empty e d k ⊎ Lacks s d k
Lacks (Return e) d k = Empty e d k
Lacks (Assert e) d k = Empty e d k
Lacks (Expr e) d k = Empty e d k

-- what is found is the lowest of the nodes that fail, and nothing is found where none does
abbrev pub Lowest : (ℕ → Type 0) → Option Found → Type 0
Lowest P (Some found) = P found.place × ((j : ℕ) → P j → found.place ≤ j)
Lowest P None = (j : ℕ) → P j → ⊥

-- the same, where the nodes that fail lie from lo to hi
record Search (lo hi : ℕ) (P : ℕ → Type 0) (a : Option Found) : Type 0 where
  lowest : Lowest P a
  inside : (j : ℕ) → P j → (lo ≤ j) × (j ≤ hi)

widen : {lo hi : ℕ} {P : ℕ → Type 0} {a : Option Found} (lo' hi' : ℕ) → lo' ≤ lo → hi ≤ hi' → Search lo hi P a → Search lo' hi' P a
widen lo' hi' l h s = record { lowest = s.lowest; inside = λ j p. (le_trans l (s.inside j p).0, le_trans (s.inside j p).1 h) }

lowest_same : (P Q : ℕ → Type 0) (a : Option Found) → ((j : ℕ) → P j → Q j) → ((j : ℕ) → Q j → P j) → Lowest P a → Lowest Q a
lowest_same P Q (Some found) f g l = (f found.place l.0, λ j q. l.1 j (g j q))
lowest_same P Q None f g l = λ j q. l j (g j q)

-- of two searches, the second of which looks from mid on, where the first stops
join : {lo mid hi : ℕ} {P Q : ℕ → Type 0} (a b : Option Found) → lo ≤ mid → mid ≤ hi → Search lo mid P a → Search mid hi Q b → Search lo hi (λ j. P j ⊎ Q j) (or_else a b)
unfolding or_else
join {lo} {mid} {hi} {P} {Q} a b l h s t = record { lowest = go a s.lowest; inside = λ j. ⊎_elim (λ p. ((s.inside j p).0, le_trans (s.inside j p).1 h)) (λ q. (le_trans l (t.inside j q).0, (t.inside j q).1)) }
  where
    go : (a : Option Found) → Lowest P a → Lowest (λ j. P j ⊎ Q j) (or_else a b)
    go (Some found) m = (inl m.0, λ j. ⊎_elim (m.1 j) (λ q. le_trans (s.inside found.place m.0).1 (t.inside j q).0))
    go None m = lowest_same Q (λ j. P j ⊎ Q j) b (λ j q. inr q) (λ j. ⊎_elim (λ p. absurd (m j p)) (λ q. q)) t.lowest

-- ---- the reads of an expression

module _ (t : List ℕ) (d : Set) where
  reads_from_lem : (m i hi : ℕ) → i + m ≤ suc hi → Search i hi (Empty (reads_from t m i) d) (missing (reads_from t m i) d)
  unfolding reads_from missing
  reads_from_lem zero i hi h = record { lowest = λ j r. Memᴰ.not-nil r.listed; inside = λ j r. absurd (Memᴰ.not-nil r.listed) }
  reads_from_lem (suc m) i hi h = go (eqb (kind_at t i) 2) (reads_from_lem m (suc i) hi (omega arith))
    where
      rest : List Read
      rest = reads_from t m (suc i)

      -- one of the reads after that of node i
      inner : (j : ℕ) → (d (b_at t i) ≡ false → j ≡ i → ⊥) → Empty (read i (b_at t i) ∷ rest) d j → Empty rest d j
      inner j n r = ⊎_elim here (λ l. record { variable = r.variable; listed = l; empty = r.empty }) (Memᴰ.cases_cons r.listed)
        where
          here : read j r.variable ≡ read i (b_at t i) → Empty rest d j
          here e =
              let p : j ≡ i = cc in
              let q : b_at t i ≡ r.variable = cc in
              absurd (n (rw q r.empty) p)

      outer : (j : ℕ) → Empty rest d j → Empty (read i (b_at t i) ∷ rest) d j
      outer j r = record { variable = r.variable; listed = Memᴰ.tail r.listed; empty = r.empty }

      one : (b : Bool) → d (b_at t i) ≡ b → Search (suc i) hi (Empty rest d) (missing rest d) → Search i hi (Empty (read i (b_at t i) ∷ rest) d) (pick b (missing rest d) (At i 0))
      one b e s = record { lowest = first b e; inside = λ j r. near j r (ℕ_discrete j i) }
        where
          near : (j : ℕ) → Empty (read i (b_at t i) ∷ rest) d j → Dec (j ≡ i) → (i ≤ j) × (j ≤ hi)
          near j r (yes q) = (omega arith, omega arith)
          near j r (no q) = let z = s.inside j (inner j (λ e p. q p) r) in (omega arith, omega arith)

          first : (b : Bool) → d (b_at t i) ≡ b → Lowest (Empty (read i (b_at t i) ∷ rest) d) (pick b (missing rest d) (At i 0))
          first true e = lowest_same (Empty rest d) (Empty (read i (b_at t i) ∷ rest) d) (missing rest d) outer (λ j. inner j (λ f p. clash (d (b_at t i)) e f)) s.lowest
          first false e = (record { variable = b_at t i; listed = Memᴰ.head refl; empty = e }, λ j r. (near j r (ℕ_discrete j i)).0)

      go : (b : Bool) → Search (suc i) hi (Empty rest d) (missing rest d)
          → Search i hi (Empty (pick b (read i (b_at t i) ∷ rest) rest) d) (missing (pick b (read i (b_at t i) ∷ rest) rest) d)
      go true s = one (d (b_at t i)) refl s
      go false s = widen i hi (omega arith) (le_refl hi) s

-- ---- the statement at each node of a part with right sizes

prior_low : (t : List ℕ) (c : ℕ) → (prior t c ≤ c) × (prior t c ≤ c + 1 - size_at t c)
unfolding prior
prior_low t c = (omega arith, omega arith)

module _ (t : List ℕ) (n : ℕ) (ok : Sizes t n) where
  -- a search of the subtree of node i
  abbrev Tree : ℕ → (ℕ → Type 0) → Option Found → Type 0
  Tree i P a = Search (i + 1 - size_at t i) i P a

  abbrev Finding : ℕ → Type 0
  Finding i = (d : Set) → Tree i (Lacks (statement_at t i) d) (lacks (statement_at t i) d)

  reads_search : (e : ℕ) (d : Set) → e < n → Tree e (Empty (reads_of t e) d) (missing (reads_of t e) d)
  unfolding reads_of
  reads_search e d p = reads_from_lem t d (size_at t e) (e + 1 - size_at t e) e (omega (arith, size_fits t n ok e p))

  search_step : (i : ℕ) → i < n → ((c : ℕ) → c < i → c < n → Finding c) → Finding i
  unfolding lacks arity_of arities
  search_step i p r d =
      by_kind t i (λ k s. kind_at t i ≡ k → Tree i (Lacks s d) (lacks s d)) (λ k e. record { lowest = λ j z. z; inside = λ j z. absurd z })
      (λ e. join _ _ (mid (child 7 1 0 e refl)) (top (child 7 1 0 e refl)) (left (child 7 1 0 e refl) (stmt (child 7 1 0 e refl) d)) (right (child 7 0 1 e refl) (stmt (child 7 0 1 e refl) _)))
      (λ e. all (child 8 0 0 e refl) (expr (child 8 0 0 e refl)))
      (λ e. all (child 9 0 0 e refl) (stmt (child 9 0 0 e refl) _))
      (λ e. join _ _ (mid (child 10 2 0 e refl)) (top (child 10 2 0 e refl)) (left (child 10 2 0 e refl) (expr (child 10 2 0 e refl)))
      (join _ _ (prior_low t (prior t (last i))).0 (top (child 10 1 1 e refl)) (middle (stmt (child 10 1 1 e refl) d)) (right (child 10 0 2 e refl) (stmt (child 10 0 2 e refl) d))))
      (λ e. join _ _ (mid (child 11 1 0 e refl)) (top (child 11 1 0 e refl)) (left (child 11 1 0 e refl) (expr (child 11 1 0 e refl))) (right (child 11 0 1 e refl) (stmt (child 11 0 1 e refl) d)))
      (λ e. all (child 12 0 0 e refl) (expr (child 12 0 0 e refl)))
      (λ e. all (child 13 0 0 e refl) (expr (child 13 0 0 e refl)))
      (λ e. all (child 14 0 0 e refl) (expr (child 14 0 0 e refl))) refl
    where
      child : (kind j m : ℕ) → kind_at t i ≡ kind → arity_of kind (a_at t i) ≡ 1 + j + m → Child t i (back t j (last i))
      child kind j m e a = child_at t n ok i kind j m p e a

      stmt : {c : ℕ} → Child t i c → Finding c
      stmt {c} w = r c w.below (omega (arith, w.below))

      expr : {c : ℕ} → Child t i c → Tree c (Empty (reads_of t c) d) (missing (reads_of t c) d)
      expr {c} w = reads_search c d (omega (arith, w.below))

      low : {c : ℕ} → Child t i c → i + 1 - size_at t i ≤ c + 1 - size_at t c
      low {c} w = let z = w.inside in omega arith

      mid : {c : ℕ} → Child t i c → i + 1 - size_at t i ≤ c
      mid {c} w = let z = w.inside in let y = w.some in omega arith

      top : {c : ℕ} → Child t i c → c ≤ i
      top {c} w = let z = w.below in omega arith

      left : {c : ℕ} {P : ℕ → Type 0} {a : Option Found} → Child t i c → Tree c P a → Search (i + 1 - size_at t i) c P a
      left {c} w s = widen (i + 1 - size_at t i) c (low w) (le_refl c) s

      middle : {c : ℕ} {P : ℕ → Type 0} {a : Option Found} → Tree c P a → Search (prior t c) c P a
      middle {c} s = widen (prior t c) c (prior_low t c).1 (le_refl c) s

      right : {c : ℕ} {P : ℕ → Type 0} {a : Option Found} → Child t i c → Tree c P a → Search (prior t c) i P a
      right {c} w s = widen (prior t c) i (prior_low t c).1 (top w) s

      all : {c : ℕ} {P : ℕ → Type 0} {a : Option Found} → Child t i c → Tree c P a → Tree i P a
      all w s = widen (i + 1 - size_at t i) i (low w) (top w) s

  search : (i : ℕ) → i < n → Finding i
  search = strongly (λ i. i < n → Finding i) (λ i r p. search_step i p r)

  module _ (i : ℕ) (p : i < n) (d : Set) where
    -- every read that lacks its value lies in the statement's subtree
    pub lacking_inside : (j : ℕ) → Lacks (statement_at t i) d j → (i + 1 - size_at t i ≤ j) × (j ≤ i)
    lacking_inside = (search i p d).inside

    pub lacking_found : Lowest (Lacks (statement_at t i) d) (lacks (statement_at t i) d)
    lacking_found = (search i p d).lowest

    -- what is found lacks its value
    pub lacking_lacks : (k x : ℕ) → lacks (statement_at t i) d ≡ At k x → Lacks (statement_at t i) d k
    lacking_lacks k x e = let l : Lowest (Lacks (statement_at t i) d) (At k x) = rw e at lacking_found in l.0

    -- and is the lowest that does
    pub lacking_lowest : (k x : ℕ) → lacks (statement_at t i) d ≡ At k x → (j : ℕ) → Lacks (statement_at t i) d j → k ≤ j
    lacking_lowest k x e = let l : Lowest (Lacks (statement_at t i) d) (At k x) = rw e at lacking_found in l.1

    -- where nothing is found none lacks its value
    pub lacking_none : lacks (statement_at t i) d ≡ None → (j : ℕ) → Lacks (statement_at t i) d j → ⊥
    lacking_none e = let l : Lowest (Lacks (statement_at t i) d) None = rw e at lacking_found in l
