-- A number's digits end in no control byte.
use Rattle.std.proofs.Common.{◌≡◌, ◌+◌, ◌-◌, ◌/◌, ◌%◌, ◌<◌, ◌≤◌, ℕ, zero, suc, true, false, cond, [], ◌∷◌, length, get_or, arith, nat_lt}
use Rattle.std.proofs.Math.ListN.{length-append}
use Rattle.std.proofs.Math.Seq.{get_or_at}
use Rattle.io.specs.Digits.{last_digits, hex_digit_ascii}

digit_inside : (d : ℕ) → 32 ≤ hex_digit_ascii d
digit_inside d = elim (nat_lt d 10) as (λ b. 32 ≤ cond b (48 + d) (87 + d)) [ true ↦ omega arith | false ↦ omega arith ]

pub digits_inside : (k n : ℕ) → 1 ≤ k → (0 < length (last_digits 10 k n)) × (32 ≤ get_or (last_digits 10 k n) (length (last_digits 10 k n) - 1) 0)
digits_inside zero n h = absurd (omega arith)
digits_inside (suc k) n h =
    let front = last_digits 10 k (n / 10) in
    let digit = hex_digit_ascii (n % 10) in
    let long : length (last_digits 10 (suc k) n) ≡ length front + 1 = length-append front (digit ∷ []) in (
      omega arith,
      rw (get_or_at front digit [] 0 (length (last_digits 10 (suc k) n) - 1) (omega arith)) (digit_inside (n % 10)),
    )
