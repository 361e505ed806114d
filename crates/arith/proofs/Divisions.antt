-- Where the divisions do not raise arith they are defined and in the range; the shift to the right is.
use Rattle.std.proofs.Common.{◌≡◌, ℕ, zero, suc, ◌-◌, ◌/◌, ◌^◌, ◌<◌, ◌≤◌, true, false, eqb, ℤ, pos, neg_ℤ, sym, refl, ap, ◌∙◌, true≢false, lt_of_lt_of_le, lt_of_le_of_lt, div-le_self, arith, w32, SFits, to_z, of_z, eq-eqb}
use mathlib.Core.Bool.{or-true}
use native.Mathlib.Nat.{div-lt_self}
use native.Mathlib.Decide.{dec_lt}
use lib.Signed.{quot_z, rem_z, shr_z, mag_rem, mag_shr}
use mir.ValLaws.{sfits_le}
use Rattle.arith.specs.Int.{int, wrap}
use Rattle.arith.specs.Operators.{shr_of, no_quotient, divided}
use Rattle.arith.specs.declared.Applied.TheVariants.{Int, Arith}
use Rattle.arith.proofs.WordInts.{Read, low, high, reading, int_fits, wrap_int, wrap_of_z}
use Rattle.arith.proofs.Casts.{stored, computed}

-- a divisor and a dividend with a quotient
record Divides (a b : ℕ) : Type 0 where
  some : 0 < b
  least : a ≡ 2 ^ 31 → b ≡ 2 ^ 32 - 1 → ⊥

divides : (a b : ℕ) → no_quotient a b ≡ false → Divides a b
unfolding no_quotient wrap
divides a b e = record {
  some = positive b (λ z. true≢false (sym (rw (eq-eqb b 0 z)) ∙ e));
  least = λ p q. true≢false (sym (rw (eq-eqb a (2 ^ 31) p, eq-eqb b (2 ^ 32 - 1) q) (or-true (eqb b 0))) ∙ e);
}
  where
    positive : (n : ℕ) → (n ≡ 0 → ⊥) → 0 < n
    positive zero h = absurd (h refl)
    positive (suc n) h = omega arith

fit_neg : (q : ℕ) → q ≤ 2 ^ 31 → SFits w32 (neg_ℤ (pos q))
fit_neg zero h = record { sfits = omega arith }
fit_neg (suc q) h = record { sfits = omega arith }

quot_read : {a b : ℕ} {x y : ℤ} → Read a x → Read b y → (a ≡ 2 ^ 31 → b ≡ 2 ^ 32 - 1 → ⊥) → SFits w32 (quot_z x y)
quot_read {a} {b} (low h) (low k) u = record { sfits = lt_of_le_of_lt (div-le_self a b) h }
quot_read {a} (low h) (high n k e) u = fit_neg (a / suc n) (omega (arith, div-le_self a (suc n)))
quot_read {b = b} (high n h e) (low k) u = fit_neg (suc n / b) (omega (arith, div-le_self (suc n) b))
quot_read {a} {b} (high n h e) (high m k f) u = go (dec_lt 0 m)
  where
    go : Dec (0 < m) → SFits w32 (pos (suc n / suc m))
    go (yes l) = record { sfits = lt_of_lt_of_le (div-lt_self {n = suc n} {k = suc m} (omega arith) (omega arith)) h }
    go (no g) = record { sfits = lt_of_le_of_lt (div-le_self (suc n) (suc m)) (small (dec_lt (suc n) (2 ^ 31))) }
      where
        small : Dec (suc n < 2 ^ 31) → suc n < 2 ^ 31
        small (yes l) = l
        small (no w) = absurd (u (omega arith) (omega arith))

pub rem-fits : (a b : ℕ) → a < 2 ^ 32 → SFits w32 (rem_z (int a) (int b))
rem-fits a b h = sfits_le (mag_rem (int a) (int b)) (int_fits a h)

module _ (a b : ℕ) (ha : a < 2 ^ 32) (hb : b < 2 ^ 32) (e : no_quotient a b ≡ false) where
  pub quot_fits : SFits w32 (quot_z (int a) (int b))
  quot_fits = quot_read (reading a ha) (reading b hb) (divides a b e).least

  module _ {x y : ℤ} (ex : x ≡ int a) (ey : y ≡ int b) where
    -- what both divisions ask of the integers
    pub asked : (0 < of_z w32 y) × SFits w32 (quot_z (to_z w32 (of_z w32 x)) (to_z w32 (of_z w32 y)))
    asked =
        let f : SFits w32 (int b) = int_fits b hb in (
          rw (ey, ← wrap_of_z (int b) f, wrap_int b hb) (divides a b e).some,
          rw (stored a ha ex, stored b hb ey) quot_fits,
        )

    -- the result of either
    pub divided_is : (f : ℤ → ℤ → ℤ) {r : ℕ} → SFits w32 (f (int a) (int b))
        → r ≡ wrap (to_z w32 (of_z w32 (f (to_z w32 (of_z w32 x)) (to_z w32 (of_z w32 y)))))
        → Int r ≡ divided a b (wrap (f (int a) (int b)))
    unfolding divided
    divided_is f h q = rw e (ap Int (computed (λ z. f z (int b)) a ha ex h (rw (stored b hb ey) at q)))

pub raised : (a b result : ℕ) → no_quotient a b ≡ true → Arith ≡ divided a b result
unfolding divided
raised a b result e = rw e

-- the result of the shift to the right
pub shifted_is : {x : ℤ} {r : ℕ} (a n : ℕ) → a < 2 ^ 32 → x ≡ int a
    → r ≡ wrap (to_z w32 (of_z w32 (shr_z (to_z w32 (of_z w32 x)) (2 ^ n)))) → Int r ≡ Int (shr_of a n)
unfolding shr_of
shifted_is a n h e q = ap Int (computed (λ z. shr_z z (2 ^ n)) a h e (sfits_le (mag_shr (int a) (2 ^ n)) (int_fits a h)) q)
