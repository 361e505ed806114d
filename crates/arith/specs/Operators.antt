-- Operators in order: + − × / % << >> & | ^ < <= > >= == !=. All take ints; results are modulo 2 ^ 32, read as signed.
use Rattle.std.specs.Prelude.{ℕ, ◌%◌, ◌^◌, Bool, not, ◌&&◌, ◌||◌, List, [], ◌∷◌, pos, ◌+ℤ◌, ◌-ℤ◌, ◌*ℤ◌, neg_ℤ, ◌==◌, bit_and, bit_or, bit_xor, int_div, int_le, int_lt, int_rem, slice_index_or}
use Rattle.std.specs.Int.Signed.{shr_z}
use Rattle.varset.specs.Lowest.{pick}
use Rattle.arith.specs.Int.{int, wrap}
use Rattle.arith.specs.declared.Applied.{Applied}
use Rattle.arith.specs.declared.Applied.TheVariants.{Int, Truth, Arith}

-- +
unfoldable pub add_of : ℕ → ℕ → ℕ
add_of a b = wrap (int a +ℤ int b)

-- −
unfoldable pub sub_of : ℕ → ℕ → ℕ
sub_of a b = wrap (int a -ℤ int b)

-- ×
unfoldable pub mul_of : ℕ → ℕ → ℕ
mul_of a b = wrap (int a *ℤ int b)

-- / truncates towards zero
unfoldable pub quot_of : ℕ → ℕ → ℕ
quot_of a b = wrap (int_div (int a) (int b))

-- % takes the dividend's sign
unfoldable pub rem_of : ℕ → ℕ → ℕ
rem_of a b = wrap (int_rem (int a) (int b))

-- << by a count from 0 to 31
unfoldable pub shl_of : ℕ → ℕ → ℕ
shl_of a count = wrap (int a *ℤ pos (2 ^ count))

-- >> by a count from 0 to 31 copies the sign bit in: it rounds down
unfoldable pub shr_of : ℕ → ℕ → ℕ
shr_of a count = wrap (shr_z (int a) (2 ^ count))

-- & of the bits
unfoldable pub and_of : ℕ → ℕ → ℕ
and_of a b = bit_and a b

-- | of the bits
unfoldable pub or_of : ℕ → ℕ → ℕ
or_of a b = bit_or a b

-- ^ of the bits
unfoldable pub xor_of : ℕ → ℕ → ℕ
xor_of a b = bit_xor a b

-- <
unfoldable pub lt_of : ℕ → ℕ → Bool
lt_of a b = int_lt (int a) (int b)

-- <=
unfoldable pub le_of : ℕ → ℕ → Bool
le_of a b = int_le (int a) (int b)

-- >
unfoldable pub gt_of : ℕ → ℕ → Bool
gt_of a b = int_lt (int b) (int a)

-- >=
unfoldable pub ge_of : ℕ → ℕ → Bool
ge_of a b = int_le (int b) (int a)

-- ==
unfoldable pub eq_of : ℕ → ℕ → Bool
eq_of a b = a == b

-- !=
unfoldable pub ne_of : ℕ → ℕ → Bool
ne_of a b = not (a == b)

-- the divisor is 0, or −2^31 meets −1
unfoldable pub no_quotient : ℕ → ℕ → Bool
no_quotient a b = b == 0 || (a == wrap (neg_ℤ (pos (2 ^ 31))) && b == wrap (neg_ℤ (pos 1)))

-- both divisions raise arith there
unfoldable pub divided : ℕ → ℕ → ℕ → Applied
divided a b result = pick (no_quotient a b) Arith (Int result)

-- a shift count below 0 or above 31
unfoldable pub no_shift : ℕ → Bool
no_shift count = int_lt (int count) (pos 0) || int_lt (pos 31) (int count)

-- edition 0 keeps the low five bits of a shift count; from edition 1 on both shifts raise arith there
unfoldable pub shifted : ℕ → (ℕ → ℕ) → ℕ → Applied
shifted edition shift count = pick (edition == 0) (Int (shift (count % 32))) (pick (no_shift count) Arith (Int (shift count)))

-- the results of the operators in order; 10 to 15 give bool
unfoldable pub results : ℕ → ℕ → ℕ → List Applied
results edition a b =
    Int (add_of a b)
    ∷ Int (sub_of a b)
    ∷ Int (mul_of a b)
    ∷ divided a b (quot_of a b)
    ∷ divided a b (rem_of a b)
    ∷ shifted edition (shl_of a) b
    ∷ shifted edition (shr_of a) b
    ∷ Int (and_of a b)
    ∷ Int (or_of a b)
    ∷ Int (xor_of a b)
    ∷ Truth (lt_of a b)
    ∷ Truth (le_of a b)
    ∷ Truth (gt_of a b)
    ∷ Truth (ge_of a b)
    ∷ Truth (eq_of a b)
    ∷ Truth (ne_of a b)
    ∷ []

-- what an operator, by its number, gives of two words
unfoldable pub applied : ℕ → ℕ → ℕ → ℕ → Applied
applied edition op a b = slice_index_or (results edition a b) op Arith
