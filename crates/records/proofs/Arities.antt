-- The table of arities at the kinds that have no children.
use mathlib.Core.Path.{◌≡◌, refl, sym}
use mathlib.Core.Bool.{Bool, true, false}
use Prim.Native.Nat.{ℕ, zero, suc, ◌≤◌, ◌<◌}
use native.Mathlib.Omega.{arith}
use lib.Dec.{eqb}
use lib.ListN.{get_or-eq_default}
use borrow.Author.Tests.{eqb-true, eqb-false}
use Rattle.records.specs.Children.{arities, arity_of}
use Rattle.records.proofs.Ranges.{range_is}

-- 15 and past it
pub arity_high : (k a : ℕ) → 15 ≤ k → 0 ≡ arity_of k a
unfolding arity_of arities
arity_high k a h = go (eqb k 15) refl
  where
    go : (b : Bool) → eqb k 15 ≡ b → 0 ≡ arity_of k a
    go true e = rw (eqb-true k 15 e)
    go false e = let n : k ≡ 15 → ⊥ = eqb-false k 15 e in sym (get_or-eq_default (arities a) 0 {n = k} (omega arith))

-- 0 to 11, less those with children
pub arity_low : (k a : ℕ) → k < 12 → (k ≡ 3 → ⊥) → (k ≡ 4 → ⊥) → (k ≡ 5 → ⊥) → (k ≡ 7 → ⊥) → (k ≡ 8 → ⊥) → (k ≡ 9 → ⊥) → (k ≡ 10 → ⊥) → (k ≡ 11 → ⊥) → 0 ≡ arity_of k a
unfolding arity_of arities
arity_low zero a h p q r s t u v w = refl
arity_low (suc zero) a h p q r s t u v w = refl
arity_low (suc (suc zero)) a h p q r s t u v w = refl
arity_low (suc (suc (suc zero))) a h p q r s t u v w = absurd (p refl)
arity_low (suc (suc (suc (suc zero)))) a h p q r s t u v w = absurd (q refl)
arity_low (suc (suc (suc (suc (suc zero))))) a h p q r s t u v w = absurd (r refl)
arity_low (suc (suc (suc (suc (suc (suc zero)))))) a h p q r s t u v w = refl
arity_low (suc (suc (suc (suc (suc (suc (suc zero))))))) a h p q r s t u v w = absurd (s refl)
arity_low (suc (suc (suc (suc (suc (suc (suc (suc zero)))))))) a h p q r s t u v w = absurd (t refl)
arity_low (suc (suc (suc (suc (suc (suc (suc (suc (suc zero))))))))) a h p q r s t u v w = absurd (u refl)
arity_low (suc (suc (suc (suc (suc (suc (suc (suc (suc (suc zero)))))))))) a h p q r s t u v w = absurd (v refl)
arity_low (suc (suc (suc (suc (suc (suc (suc (suc (suc (suc (suc zero))))))))))) a h p q r s t u v w = absurd (w refl)
arity_low (suc (suc (suc (suc (suc (suc (suc (suc (suc (suc (suc (suc k)))))))))))) a h p q r s t u v w = absurd (omega arith)

-- return, assert and expression: 7 to 14, less those before
pub arity_one : (k a : ℕ) → 7 ≤ k → k < 15 → (k ≡ 7 → ⊥) → (k ≡ 8 → ⊥) → (k ≡ 9 → ⊥) → (k ≡ 10 → ⊥) → (k ≡ 11 → ⊥) → 1 ≡ arity_of k a
unfolding arity_of arities
arity_one k a p q s t u v w = range_is (λ k. arity_of k a) 1 12 3 tt k (omega arith) (omega arith)
