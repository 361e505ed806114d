-- A word without members is 0.
use mathlib.Core.Path.{◌≡◌, sym, ap, ◌∙◌}
use mathlib.Core.Bool.{false}
use Prim.Native.Nat.{ℕ, zero, suc, ◌+◌, ◌/◌, ◌%◌, ◌≤◌}
use native.Mathlib.Nat.{div-one}
use native.Mathlib.Omega.{arith}
use lib.Dec.{eqb}
use lib.Pow.{shr-shr}
use borrow.Author.Tests.{eqb-false}
use Rattle.varset.specs.Sets.{Set, has, none}

members : (k n : ℕ) → n ≤ k → ((i : ℕ) → has n i ≡ false) → n ≡ 0
unfolding has
members zero n l h = omega arith
members (suc k) n l h =
    let o : (n % 2 ≡ 1 → ⊥) = eqb-false (n % 2) 1 (ap (λ (m : ℕ). eqb (m % 2) 1) (sym (div-one n)) ∙ h 0) in
    let r : n / 2 ≡ 0 = members k (n / 2) (omega arith) (λ i. ap (λ (m : ℕ). eqb (m % 2) 1) (shr-shr n 1 i) ∙ h (1 + i)) in
    omega (arith, o, r)

pub zero_word : (n : ℕ) → has n ≡ none → n ≡ 0
unfolding none
zero_word n e = members n n (omega arith) (λ i. ap (λ (t : Set). t i) e)
