-- How many nodes of a part declare a variable, as a count over their numbers.
use Rattle.std.proofs.Common.{◌≡◌, ℕ, zero, suc, ◌+◌, Bool, true, false, ◌&&◌, List, [], ◌∷◌, ◌++◌, length, cond, eqb, refl, ap, ◌∙◌, arith, add-zero, zero-add, length-append}
use Rattle.std.specs.List.{filter, range_with_len}
use Rattle.std.proofs.lemmas.List.Elements.{filter-append}
use Rattle.varset.specs.Lowest.{pick}
use Rattle.records.specs.Fields.{kind_at, b_at}
use Rattle.spec_language.specs.Scopes.{declares_at, decl_count}

-- the node declares the variable, as the code asks
abbrev pub declares_as : List ℕ → ℕ → ℕ → Bool
declares_as t x i = eqb (kind_at t i) 9 && eqb (b_at t i) x

-- the numbers below n + 1
range_more : (a n : ℕ) → range_with_len a (suc n) ≡ range_with_len a n ++ (a + n) ∷ []
range_more a zero = rw (add-zero a)
range_more a (suc n) =
    let z : a + 1 + n ≡ a + suc n = omega arith in
    ap (λ (x : List ℕ). a ∷ x) (range_more (a + 1) n ∙ rw z)

-- one number more
one_more : (b : Bool) (n y : ℕ) → n + length (cond b (y ∷ []) []) ≡ pick b (suc n) n
one_more true n y = omega arith
one_more false n y = omega arith

-- the numbers of the nodes that declare it are as many as the nodes
pub counted : (t : List ℕ) (n x : ℕ) → length (filter (declares_as t x) (range_with_len 0 n)) ≡ decl_count t n x
unfolding decl_count declares_at
counted t zero x = refl
counted t (suc n) x =
    ap (λ (k : List ℕ). length (filter (declares_as t x) k)) (range_more 0 n ∙ ap (λ (k : ℕ). range_with_len 0 n ++ k ∷ []) (zero-add n))
    ∙ ap length (filter-append (declares_as t x) (range_with_len 0 n) (n ∷ []))
    ∙ rw (length-append (filter (declares_as t x) (range_with_len 0 n)) (cond (declares_as t x n) (n ∷ []) []), counted t n x) (one_more (declares_as t x n) (decl_count t n x) n)
