-- The lowest number that passes one of two tests, or a test that one number alone can pass.
use mathlib.Core.Path.{◌≡◌, refl}
use mathlib.Core.Bool.{Bool, true, false, ◌||◌}
use Prim.Native.Nat.{ℕ, zero, suc, ◌<◌, min}
use native.Mathlib.Omega.{arith}
use lib.Dec.{eqb}
use borrow.Author.Tests.{eqb-true, eqb-false}
use Rattle.varset.specs.Lowest.{pick, lowest}
use Rattle.records.proofs.Loops.{lowest_at, lowest_none}

pub lowest_or : (p r : ℕ → Bool) (n : ℕ) → lowest (λ i. p i || r i) n ≡ min (lowest p n) (lowest r n)
unfolding lowest
lowest_or p r zero = refl
lowest_or p r (suc n) = go (p zero) (r zero) (lowest_or (λ i. p (suc i)) (λ i. r (suc i)) n)
  where
    go : (a b : Bool) → lowest (λ i. p (suc i) || r (suc i)) n ≡ min (lowest (λ i. p (suc i)) n) (lowest (λ i. r (suc i)) n)
        → pick (a || b) zero (suc (lowest (λ i. p (suc i) || r (suc i)) n))
        ≡ min (pick a zero (suc (lowest (λ i. p (suc i)) n))) (pick b zero (suc (lowest (λ i. r (suc i)) n)))
    go true b e = omega arith
    go false true e = omega arith
    go false false e = omega arith

pub lowest_one : (p : ℕ → Bool) (n c : ℕ) → c < n → ((k : ℕ) → (k ≡ c → ⊥) → p k ≡ false) → lowest p n ≡ pick (p c) c n
lowest_one p n c h f = go (p c) refl
  where
    at : p c ≡ false → (k : ℕ) (b : Bool) → eqb k c ≡ b → p k ≡ false
    at e k true q = rw (eqb-true k c q) e
    at e k false q = f k (eqb-false k c q)

    go : (b : Bool) → p c ≡ b → lowest p n ≡ pick b c n
    go true e = lowest_at p n c h (λ k l. f k (λ q. absurd (omega arith))) e
    go false e = lowest_none p n (λ k l. at e k (eqb k c) refl)
