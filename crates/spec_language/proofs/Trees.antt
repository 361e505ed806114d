-- The statement at a node, level by level: each kind's, from the statements and reads at its children. No shape is asked for.
use Rattle.std.specs.Prelude.{Some, Option, None}
use mathlib.Core.Path.{◌≡◌, refl}
use mathlib.Core.Bool.{Bool, true, false}
use mathlib.Core.List.{List, ◌∷◌}
use Prim.Native.Nat.{ℕ, zero, suc, ◌+◌, ◌-◌, ◌≤◌, ◌<◌}
use native.Mathlib.Nat.{not-suc-le-zero, le_of_suc-le-suc, le_trans, le_refl, sub-le}
use native.Mathlib.Omega.{arith}
use lib.Dec.{eqb}
use mathlib.Core.Logic.{◌⊎◌, inl, inr}
use lib.ListN.{get_or}
use Rattle.varset.specs.Lowest.{pick}
use Rattle.varset.specs.Sets.{Set, without}
use Rattle.records.specs.Fields.{kind_at, b_at, size_at}
use Rattle.records.specs.Search.{At, or_else}
use Rattle.records.specs.declared.Found.{Found}
use Rattle.records.proofs.Bools.{clash}
use Rattle.records.proofs.EntryTables.{each_at}
use Rattle.spec_language.specs.KindLists.{is_statement}
use Rattle.spec_language.specs.Statements.{Shape, nop, seq, assign, decl, if, while, return, assert, expr, stray, prior, last, shapes, shape_at, read, reads_from, reads_of, Statement, Nop, Seq, Assign, Decl, If, While, Return, Assert, Expr, grow, statement_in, statement_at}
use Rattle.spec_language.specs.Flow.{leaves, missing, lacks}
use Rattle.spec_language.specs.Known.{Known}

-- a property of each kind's shape
by_shape : (t : List ℕ) (i : ℕ) (P : ℕ → Shape → Type 0) → ((k : ℕ) → P k stray) → P 6 nop
    → P 7 (seq (prior t (last i)) (last i))
    → P 8 (assign (b_at t i) (last i))
    → P 9 (decl (b_at t i) (last i))
    → P 10 (if (prior t (prior t (last i))) (prior t (last i)) (last i))
    → P 11 (while (prior t (last i)) (last i))
    → P 12 (return (last i))
    → P 13 (assert (last i))
    → P 14 (expr (last i))
    → P (kind_at t i) (shape_at t i)
unfolding shape_at shapes
by_shape t i P z n s a d f w r c e =
    each_at P (shapes t i) stray (z 0, (z 1, (z 2, (z 3, (z 4, (z 5, (n, (s, (a, (d, (f, (w, (r, (c, (e, (z 15, tt)))))))))))))))) z (kind_at t i)

-- children lie below their parent
last_below : (i : ℕ) → last (suc i) ≤ i
unfolding last
last_below i = omega arith

prior_le : (t : List ℕ) (c : ℕ) → prior t c ≤ c
unfolding prior
prior_le t c = sub-le c (size_at t c)

-- the tree of one level depends on the trees of the nodes below it alone
grow_same : (t : List ℕ) (i : ℕ) (f g : ℕ → Statement) → ((j : ℕ) → j ≤ i → f j ≡ g j)
    → grow (reads_of t) f (shape_at t (suc i)) ≡ grow (reads_of t) g (shape_at t (suc i))
unfolding grow
grow_same t i f g h =
    let l : f (last (suc i)) ≡ g (last (suc i)) = h (last (suc i)) (last_below i) in
    let p : f (prior t (last (suc i))) ≡ g (prior t (last (suc i))) = h (prior t (last (suc i))) (le_trans (prior_le t (last (suc i))) (last_below i)) in
    by_shape t (suc i) (λ k s. grow (reads_of t) f s ≡ grow (reads_of t) g s) (λ k. refl) refl (cc) refl (cc) (cc) (cc) refl refl refl

-- more levels than a node has below it change nothing
levels : (t : List ℕ) (f g i : ℕ) → i ≤ f → i ≤ g → statement_in t f i ≡ statement_in t g i
unfolding statement_in
levels t zero zero i p q = refl
levels t zero (suc g) zero p q = refl
levels t zero (suc g) (suc i) p q = absurd (not-suc-le-zero p)
levels t (suc f) zero zero p q = refl
levels t (suc f) zero (suc i) p q = absurd (not-suc-le-zero q)
levels t (suc f) (suc g) zero p q = refl
levels t (suc f) (suc g) (suc i) p q =
    grow_same t i (statement_in t f) (statement_in t g) (λ j l. levels t f g j (le_trans l (le_of_suc-le-suc p)) (le_trans l (le_of_suc-le-suc q)))

-- the tree at a node is grown from the trees at its children
pub statement_law : (t : List ℕ) (i : ℕ) → statement_at t (suc i) ≡ grow (reads_of t) (statement_at t) (shape_at t (suc i))
unfolding statement_at statement_in
statement_law t i = grow_same t i (statement_in t i) (statement_at t) (λ j l. levels t i j j l (le_refl j))

-- return, assert and kind 14
pub one_of_three : (k : ℕ) → 12 ≤ k → k < 15 → (k ≡ 12) ⊎ ((k ≡ 13) ⊎ (k ≡ 14))
one_of_three k l u = go (k - 12) refl
  where
    go : (j : ℕ) → k - 12 ≡ j → (k ≡ 12) ⊎ ((k ≡ 13) ⊎ (k ≡ 14))
    go zero e = inl (omega arith)
    go (suc zero) e = inr (inl (omega arith))
    go (suc (suc j)) e = inr (inr (omega arith))

-- a node of a known kind
module _ (t : List ℕ) (i : ℕ) where
  pub statement_of : 0 < i → statement_at t i ≡ grow (reads_of t) (statement_at t) (shape_at t i)
  statement_of p = go i p
    where
      go : (i : ℕ) → 0 < i → statement_at t i ≡ grow (reads_of t) (statement_at t) (shape_at t i)
      go zero p = absurd (not-suc-le-zero p)
      go (suc i) p = statement_law t i

  statement_kind : (kind : ℕ) → kind_at t i ≡ kind → 0 < i → statement_at t i ≡ grow (reads_of t) (statement_at t) (get_or (shapes t i) kind stray)
  unfolding shape_at
  statement_kind kind e p = rw (← e) (statement_of p)

  pub statement_seq : kind_at t i ≡ 7 → 0 < i → statement_at t i ≡ Seq (statement_at t (prior t (last i))) (statement_at t (last i))
  unfolding shapes grow
  statement_seq = statement_kind 7

  pub statement_assign : kind_at t i ≡ 8 → 0 < i → statement_at t i ≡ Assign (b_at t i) (reads_of t (last i))
  unfolding shapes grow
  statement_assign = statement_kind 8

  pub statement_decl : kind_at t i ≡ 9 → 0 < i → statement_at t i ≡ Decl (b_at t i) (statement_at t (last i))
  unfolding shapes grow
  statement_decl = statement_kind 9

  pub statement_if : kind_at t i ≡ 10 → 0 < i
      → statement_at t i ≡ If (reads_of t (prior t (prior t (last i)))) (statement_at t (prior t (last i))) (statement_at t (last i))
  unfolding shapes grow
  statement_if = statement_kind 10

  pub statement_while : kind_at t i ≡ 11 → 0 < i → statement_at t i ≡ While (reads_of t (prior t (last i))) (statement_at t (last i))
  unfolding shapes grow
  statement_while = statement_kind 11

  pub statement_return : kind_at t i ≡ 12 → 0 < i → statement_at t i ≡ Return (reads_of t (last i))
  unfolding shapes grow
  statement_return = statement_kind 12

  pub statement_assert : kind_at t i ≡ 13 → 0 < i → statement_at t i ≡ Assert (reads_of t (last i))
  unfolding shapes grow
  statement_assert = statement_kind 13

  pub statement_expr : kind_at t i ≡ 14 → 0 < i → statement_at t i ≡ Expr (reads_of t (last i))
  unfolding shapes grow
  statement_expr = statement_kind 14

  -- a property of each kind's statement; no node stands before node 0, which counts as nop whatever its kind
  pub by_kind : (P : ℕ → Statement → Type 0) → ((k : ℕ) → P k Nop)
      → P 7 (Seq (statement_at t (prior t (last i))) (statement_at t (last i)))
      → P 8 (Assign (b_at t i) (reads_of t (last i)))
      → P 9 (Decl (b_at t i) (statement_at t (last i)))
      → P 10 (If (reads_of t (prior t (prior t (last i)))) (statement_at t (prior t (last i))) (statement_at t (last i)))
      → P 11 (While (reads_of t (prior t (last i))) (statement_at t (last i)))
      → P 12 (Return (reads_of t (last i)))
      → P 13 (Assert (reads_of t (last i)))
      → P 14 (Expr (reads_of t (last i)))
      → P (kind_at t i) (statement_at t i)
  unfolding grow
  by_kind P z s a d f w r c e =
      at_zero i (λ p. rw (statement_of p) (by_shape t i (λ k x. P k (grow (reads_of t) (statement_at t) x)) z (z 6) s a d f w r c e))
    where
      zero_at : statement_at t 0 ≡ Nop
      zero_at = unfold statement_at statement_in in refl

      at_zero : (j : ℕ) → (0 < j → P (kind_at t j) (statement_at t j)) → P (kind_at t j) (statement_at t j)
      at_zero zero h = rw zero_at (z (kind_at t 0))
      at_zero (suc j) h = h (omega arith)

  -- nop, and the kinds that are no statements
  pub statement_rest : is_statement (kind_at t i) ≡ false → statement_at t i ≡ Nop
  statement_rest = by_kind (λ k s. is_statement k ≡ false → s ≡ Nop) (λ k h. refl) no no no no no no no no
    where
      no : {A : Type 0} → ◌≡◌ {A = Bool} true false → A
      no e = clash true refl e

  pub statement_nop : kind_at t i ≡ 6 → statement_at t i ≡ Nop
  statement_nop e = statement_rest (rw e)

-- a search finds nothing past node i, and names no item
abbrev Low : ℕ → Option Found → Type 0
Low i (Some found) = (found.place ≤ i) × (found.item ≡ 0)
Low i None = Unit {0}

low_or : (i : ℕ) (a b : Option Found) → Low i a → Low i b → Low i (or_else a b)
unfolding or_else
low_or i (Some found) b p q = p
low_or i None b p q = q

low_on : (j i : ℕ) (a : Option Found) → j ≤ i → Low j a → Low i a
low_on j i (Some found) l p = (le_trans p.0 l, p.1)
low_on j i None l p = tt

low_missing : (t : List ℕ) (i m j : ℕ) (d : Set) → j + m ≤ i + 1 → Low i (missing (reads_from t m j) d)
unfolding reads_from missing
low_missing t i zero j d h = tt
low_missing t i (suc m) j d h = go (eqb (kind_at t j) 2) (low_missing t i m (suc j) d (omega arith))
  where
    one : (b : Bool) → Low i (missing (reads_from t m (suc j)) d) → Low i (pick b (missing (reads_from t m (suc j)) d) (At j 0))
    one true r = r
    one false r = (omega arith, refl)

    go : (b : Bool) → Low i (missing (reads_from t m (suc j)) d) → Low i (missing (pick b (read j (b_at t j) ∷ reads_from t m (suc j)) (reads_from t m (suc j))) d)
    go true r = one (d (b_at t j)) r
    go false r = r

-- what a statement lacks
module _ (t : List ℕ) (n : ℕ) (h : Known t n) where
  low_reads : (i e : ℕ) (d : Set) → e ≤ i → i < n → Low i (missing (reads_of t e) d)
  unfolding reads_of
  low_reads i e d l p =
      let s : size_at t e ≤ e + 1 = h.sized e (omega arith) in
      low_missing t i (size_at t e) (e + 1 - size_at t e) d (omega arith)

  -- one level, where the trees below it find nothing past node i
  low_grow : (g : ℕ → Statement) (i : ℕ) → suc i < n → ((j : ℕ) → j ≤ i → (d : Set) → Low (suc i) (lacks (g j) d))
      → (d : Set) → Low (suc i) (lacks (grow (reads_of t) g (shape_at t (suc i))) d)
  unfolding grow lacks
  low_grow g i p r d =
      let b : ℕ = last (suc i) in
      let a : ℕ = prior t b in
      let e : ℕ = prior t a in
      let lb : b ≤ i = last_below i in
      let la : a ≤ i = le_trans (prior_le t b) lb in
      let le : e ≤ i = le_trans (prior_le t a) la in
      let rb : Low (suc i) (missing (reads_of t b) d) = low_reads (suc i) b d (omega arith) p in
      let ra : Low (suc i) (missing (reads_of t a) d) = low_reads (suc i) a d (omega arith) p in
      let re : Low (suc i) (missing (reads_of t e) d) = low_reads (suc i) e d (omega arith) p in
      let two : Low (suc i) (or_else (lacks (g a) d) (lacks (g b) d)) = low_or (suc i) (lacks (g a) d) (lacks (g b) d) (r a la d) (r b lb d) in
      by_shape t (suc i) (λ k s. Low (suc i) (lacks (grow (reads_of t) g s) d)) (λ k. tt) tt
      (low_or (suc i) (lacks (g a) d) (lacks (g b) (leaves (g a) d)) (r a la d) (r b lb (leaves (g a) d)))
      rb
      (r b lb (without d (b_at t (suc i))))
      (low_or (suc i) (missing (reads_of t e) d) (or_else (lacks (g a) d) (lacks (g b) d)) re two)
      (low_or (suc i) (missing (reads_of t a) d) (lacks (g b) d) ra (r b lb d))
      rb
      rb
      rb

  low_in : (f i : ℕ) (d : Set) → i < n → Low i (lacks (statement_in t f i) d)
  unfolding statement_in lacks
  low_in zero i d p = tt
  low_in (suc f) zero d p = tt
  low_in (suc f) (suc i) d p = low_grow (statement_in t f) i p (λ j l d. low_on j (suc i) (lacks (statement_in t f j) d) (omega arith) (low_in f j d (omega arith))) d

  low_at : (i : ℕ) (d : Set) (a : Option Found) → i < n → lacks (statement_at t i) d ≡ a → Low i a
  unfolding statement_at
  low_at i d a p e = rw e at (low_in i i d p)

  -- it stands at the statement's node or before it, and no item is named
  pub lacking_below : (i k x : ℕ) (d : Set) → i < n → lacks (statement_at t i) d ≡ At k x → k ≤ i
  lacking_below i k x d p e = (low_at i d (At k x) p e).0

  pub lacking_item : (i k x : ℕ) (d : Set) → i < n → lacks (statement_at t i) d ≡ At k x → x ≡ 0
  lacking_item i k x d p e = (low_at i d (At k x) p e).1
