-- Kinds told apart by lists and by ranges: what holds of each of them holds of any.
use mathlib.Core.Path.{◌≡◌, refl}
use mathlib.Core.Bool.{Bool, true, false, ◌&&◌}
use mathlib.Core.List.{List, [], ◌∷◌}
use mathlib.Core.Logic.{◌⊎◌, inl, inr, ⊎_elim}
use Prim.Native.Nat.{ℕ, zero, suc, ◌+◌, ◌≤◌, ◌<◌}
use native.Mathlib.Omega.{arith}
use lib.Dec.{eqb, ltb}
use borrow.Author.Tests.{eqb-true, eqb-false, ne_eqb, ltb-true}
use Rattle.records.specs.Children.{arities, arity_of}
use Rattle.records.proofs.Bools.{clash, or_cases, and_left, and_right}
use Rattle.records.proofs.EntryTables.{entry_at}
use Rattle.spec_language.specs.Sorts.{one_of, expressions, is_expression, wants_expression}
use Rattle.spec_language.specs.KindLists.{constants, is_constant, statements, is_statement}
use Rattle.spec_language.specs.Nodes.{fields, fields_ok}
use Rattle.spec_language.proofs.Tiles.{Each}

-- what holds of each of a list holds of a kind that is one of them
pub one_of_lem : (P : ℕ → Type 0) (ks : List ℕ) → Each P ks → (k : ℕ) → one_of ks k ≡ true → P k
one_of_lem P [] h k e = clash false e refl
one_of_lem P (x ∷ xs) h k e = or_cases (eqb k x) (one_of xs k) e (λ q. rw (eqb-true k x q) h.0) (one_of_lem P xs h.1 k)

-- a kind that differs from each of a list is none of them
pub none_of : (ks : List ℕ) (k : ℕ) → Each (λ x. k ≡ x → ⊥) ks → one_of ks k ≡ false
none_of [] k h = refl
none_of (x ∷ xs) k h = rw (ne_eqb k x h.0, none_of xs k h.1)

-- each of a list is below m
abbrev below : ℕ → List ℕ → Bool
below m [] = true
below m (x ∷ xs) = ltb x m && below m xs

-- a kind from m on is none of a list that is below m
pub past : (ks : List ℕ) (m : ℕ) → below m ks ≡ true → (k : ℕ) → m ≤ k → one_of ks k ≡ false
past [] m h k l = refl
past (x ∷ xs) m h k l =
    let q : x < m = ltb-true x m (and_left (ltb x m) _ h) in
    rw (ne_eqb k x (λ e. omega arith), past xs m (and_right (ltb x m) _ h) k l)

-- P at lo and the m - 1 numbers after it
abbrev pub EachFrom : (ℕ → Type 0) → ℕ → ℕ → Type 0
EachFrom P lo zero = lo ≡ lo
EachFrom P lo (suc m) = P lo × EachFrom P (suc lo) m

pub in_range : (P : ℕ → Type 0) (lo m : ℕ) → EachFrom P lo m → (k : ℕ) → lo ≤ k → k < lo + m → P k
in_range P lo zero e k p q = absurd (omega arith)
in_range P lo (suc m) e k p q = go (in_range P (suc lo) m e.1 k) (eqb k lo) refl
  where
    go : (suc lo ≤ k → k < suc lo + m → P k) → (b : Bool) → eqb k lo ≡ b → P k
    go more true r = rw (eqb-true k lo r) e.0
    go more false r = let n : k ≡ lo → ⊥ = eqb-false k lo r in more (omega arith) (omega arith)

-- ---- the sorts

pub expression_past : (k : ℕ) → 16 ≤ k → is_expression k ≡ false
unfolding is_expression
expression_past = past expressions 16 refl

pub statement_past : (k : ℕ) → 16 ≤ k → is_statement k ≡ false
statement_past = past statements 16 refl

-- in a range, where code compares
pub statement_within : (k : ℕ) → 7 ≤ k → k < 15 → is_statement k ≡ true
statement_within = in_range (λ k. is_statement k ≡ true) 7 8 (refl, (refl, (refl, (refl, (refl, (refl, (refl, (refl, refl))))))))

pub statement_outside : (k : ℕ) → (k < 7) ⊎ (15 ≤ k) → is_statement k ≡ false
statement_outside k h = none_of statements k (no 7 refl, (no 8 refl, (no 9 refl, (no 10 refl, (no 11 refl, (no 12 refl, (no 13 refl, (no 14 refl, tt))))))))
  where
    no : (j : ℕ) → (ltb 6 j && ltb j 15) ≡ true → k ≡ j → ⊥
    no j l e =
        let a : 6 < j = ltb-true 6 j (and_left (ltb 6 j) _ l) in
        let b : j < 15 = ltb-true j 15 (and_right (ltb 6 j) _ l) in
        ⊎_elim (λ (q : k < 7). omega arith) (λ (q : 15 ≤ k). omega arith) h

-- a constant is an expression
pub constant_expression : (k : ℕ) → is_constant k ≡ true → is_expression k ≡ true
unfolding is_expression
constant_expression = one_of_lem (λ k. is_expression k ≡ true) constants (refl, (refl, (refl, tt)))

-- a statement is no expression
pub no_expression : (k : ℕ) → is_statement k ≡ true → is_expression k ≡ false
unfolding is_expression
no_expression = one_of_lem (λ k. is_expression k ≡ false) statements (refl, (refl, (refl, (refl, (refl, (refl, (refl, (refl, tt))))))))

-- a statement other than nop has a child
pub has_child : (a k : ℕ) → is_statement k ≡ true → 0 < arity_of k a
unfolding arity_of arities
has_child a = one_of_lem (λ k. 0 < arity_of k a) statements (omega arith, (omega arith, (omega arith, (omega arith, (omega arith, (omega arith, (omega arith, (omega arith, tt))))))))

-- an expression's children are to be expressions
pub expression_wants : (j k : ℕ) → is_expression k ≡ true → wants_expression k j ≡ true
unfolding is_expression wants_expression
expression_wants j = one_of_lem (λ k. wants_expression k j ≡ true) expressions (refl, (refl, (refl, (refl, (refl, (refl, (refl, tt)))))))

-- a kind whose fields question 7 passes is an expression, nop, or a statement with children
pub kind_sort : (s : List ℕ) (f a b k : ℕ) → fields_ok s f k a b ≡ true → (is_expression k ≡ true) ⊎ ((k ≡ 6) ⊎ (is_statement k ≡ true))
unfolding fields_ok fields is_expression
kind_sort s f a b k =
    entry_at (λ k x. x ≡ true → (is_expression k ≡ true) ⊎ ((k ≡ 6) ⊎ (is_statement k ≡ true))) (fields s f a b) false
    (e, (e, (e, (e, (e, (e, (λ q. inr (inl refl), (t, (t, (t, (t, (t, (t, (t, (t, (e, tt)))))))))))))))) (λ k l q. clash false q refl) k
  where
    e : {A : Type 0} {b : Bool} → b ≡ true → (◌≡◌ {A = Bool} true true) ⊎ A
    e q = inl refl

    t : {A B : Type 0} {b : Bool} → b ≡ true → A ⊎ (B ⊎ (◌≡◌ {A = Bool} true true))
    t q = inr (inr refl)
