-- What a search over the numbers below a bound shows.
use Rattle.std.proofs.Common.{◌≡◌, ℕ, zero, suc, ◌+◌, ◌<◌, Bool, true, false, ◌||◌, List, [], ◌∷◌, ◌++◌, refl, ap, ◌∙◌, subst, arith, add-zero, zero-add}
use Rattle.std.specs.List.{list_any, list_all, range_with_len}
use Rattle.std.proofs.lemmas.List.Folds.{list_any-append}
use Rattle.records.proofs.Bools.{and_left, and_right}
use Rattle.spec_language.specs.Nodes.{some}

-- each number that was asked passes
pub each_passes : (p : ℕ → Bool) (a n : ℕ) → list_all p (range_with_len a n) ≡ true → (k : ℕ) → k < n → p (a + k) ≡ true
each_passes p a zero e k h = absurd (omega arith)
each_passes p a (suc n) e zero h = rw (add-zero a) (and_left (p a) _ e)
each_passes p a (suc n) e (suc k) h =
    let z : a + 1 + k ≡ a + suc k = omega arith in
    subst (λ (i : ℕ). p i ≡ true) z (each_passes p (a + 1) n (and_right (p a) _ e) k (omega arith))

-- the numbers below n + 1
range_more : (a n : ℕ) → range_with_len a (suc n) ≡ range_with_len a n ++ (a + n) ∷ []
range_more a zero = rw (add-zero a)
range_more a (suc n) =
    let z : a + 1 + n ≡ a + suc n = omega arith in
    ap (λ (x : List ℕ). a ∷ x) (range_more (a + 1) n ∙ rw z)

-- whether some number passes, asked from the first one on
pub some_of : (p : ℕ → Bool) (n : ℕ) → list_any p (range_with_len 0 n) ≡ some p n
unfolding some
some_of p zero = refl
some_of p (suc n) =
    ap (list_any p) (range_more 0 n) ∙ list_any-append p (range_with_len 0 n) ((0 + n) ∷ []) ∙ rw (some_of p n, zero-add n) (either (some p n) (p n))
  where
    either : (a b : Bool) → a || (b || false) ≡ b || a
    either true true = refl
    either true false = refl
    either false true = refl
    either false false = refl
