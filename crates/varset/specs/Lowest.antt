-- A choice by a test, and the lowest number that passes one.
use Rattle.std.specs.Prelude.{Bool, true, false, ℕ, zero, suc}

-- `pick b x y` is x where b holds and y where it does not
abbrev pub pick {ℓ} : {A : Type ℓ} → Bool → A → A → A
pick true x y = x
pick false x y = y

-- the lowest i below n with p i, and n where there is none
unfoldable pub lowest : (ℕ → Bool) → ℕ → ℕ
lowest p zero = zero
lowest p (suc n) = pick (p zero) zero (suc (lowest (λ i. p (suc i)) n))
