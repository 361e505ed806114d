-- The bit operations on numbers of any width are the operations on sets.
use mathlib.Core.Path.{◌≡◌, refl, sym, ap, ◌∙◌}
use mathlib.Core.Bool.{Bool, true, false, not, ◌&&◌, ◌||◌}
use Prim.Native.Nat.{ℕ, zero, suc, ◌+◌, ◌-◌, ◌*◌, ◌/◌, ◌%◌, ◌^◌, ◌≤◌, ◌<◌, min, max}
use native.Mathlib.Nat.{mod-lt, zero-lt-suc, not-suc-le-zero, le_of_suc-le-suc, lt_of_lt_of_le, div-eq_of_lt, div-one, one-mul, pow-suc, pow-le-pow_right}
use native.Mathlib.Numerals.{one-add}
use native.Mathlib.Omega.{arith}
use native.Mathlib.Decide.{dec_lt}
use borrow.Author.Tests.{lt-ltb, le-ltb, ltb-true, ltb-false}
use lib.Dec.{eqb, ltb, lit<, eqb-zero-suc, eqb-suc-zero, eqb-suc-suc}
use lib.Count.{count_trailing_zeros, under}
use lib.Arith.{digits_mod}
use lib.Bits.{differ, bit_and, bit_or, bit_xor, and_step, or_step, xor_step, and_shr, or_shr, xor_shr, shifted_half, shifted_even}
use lib.Pow.{pow_pos, pow-lt, shr-shr, shl_exact}
use Rattle.varset.specs.Lowest.{pick, lowest}
use Rattle.varset.specs.Sets.{has, with, without, both, either, less, none, below}

-- how an operation on digits acts on members
record Digits (f : ℕ → ℕ → ℕ) (g : Bool → Bool → Bool) : Type 0 where
  small : (x y : ℕ) → x < 2 → y < 2 → f x y < 2
  test : (x y : ℕ) → x < 2 → y < 2 → eqb (f x y) 1 ≡ g (eqb x 1) (eqb y 1)

module _ (op f : ℕ → ℕ → ℕ) (g : Bool → Bool → Bool)
    (step : (a b : ℕ) → op a b ≡ op (a / 2) (b / 2) * 2 + f (a % 2) (b % 2))
    (shr : (a b k : ℕ) → op a b / 2 ^ k ≡ op (a / 2 ^ k) (b / 2 ^ k))
    (d : Digits f g) where
  op_has : (a b i : ℕ) → has (op a b) i ≡ g (has a i) (has b i)
  unfolding has
  op_has a b i =
      let x = a / 2 ^ i in
      let y = b / 2 ^ i in
      let hx : x % 2 < 2 = mod-lt x (zero-lt-suc 1) in
      let hy : y % 2 < 2 = mod-lt y (zero-lt-suc 1) in
      ap (λ (n : ℕ). eqb (n % 2) 1) (shr a b i ∙ step x y)
      ∙ ap (λ (n : ℕ). eqb n 1) (digits_mod (op (x / 2) (y / 2)) (d.small (x % 2) (y % 2) hx hy))
      ∙ d.test (x % 2) (y % 2) hx hy

by_digit : (P : ℕ → ℕ → Type 0) → P 0 0 → P 0 1 → P 1 0 → P 1 1 → (x y : ℕ) → x < 2 → y < 2 → P x y
by_digit P a b c d zero zero hx hy = a
by_digit P a b c d zero (suc zero) hx hy = b
by_digit P a b c d (suc zero) zero hx hy = c
by_digit P a b c d (suc zero) (suc zero) hx hy = d
by_digit P a b c d zero (suc (suc y)) hx hy = absurd (not-suc-le-zero (le_of_suc-le-suc (le_of_suc-le-suc hy)))
by_digit P a b c d (suc zero) (suc (suc y)) hx hy = absurd (not-suc-le-zero (le_of_suc-le-suc (le_of_suc-le-suc hy)))
by_digit P a b c d (suc (suc x)) y hx hy = absurd (not-suc-le-zero (le_of_suc-le-suc (le_of_suc-le-suc hx)))

table : (f : ℕ → ℕ → ℕ) (g : Bool → Bool → Bool)
    → f 0 0 < 2 → f 0 1 < 2 → f 1 0 < 2 → f 1 1 < 2
    → eqb (f 0 0) 1 ≡ g false false → eqb (f 0 1) 1 ≡ g false true → eqb (f 1 0) 1 ≡ g true false → eqb (f 1 1) 1 ≡ g true true → Digits f g
table f g a b c d p q r s = record {
  small = by_digit (λ (x y : ℕ). f x y < 2) a b c d;
  test = by_digit (λ (x y : ℕ). eqb (f x y) 1 ≡ g (eqb x 1) (eqb y 1)) p q r s;
}

pub and_has : (a b i : ℕ) → has (bit_and a b) i ≡ has a i && has b i
and_has = op_has bit_and min ◌&&◌ and_step and_shr (table min ◌&&◌ (lit< tt) (lit< tt) (lit< tt) (lit< tt) refl refl refl refl)

pub or_has : (a b i : ℕ) → has (bit_or a b) i ≡ has a i || has b i
or_has = op_has bit_or max ◌||◌ or_step or_shr (table max ◌||◌ (lit< tt) (lit< tt) (lit< tt) (lit< tt) refl refl refl refl)

abbrev unlike : Bool → Bool → Bool
unlike true b = not b
unlike false b = b

pub xor_has : (a b i : ℕ) → has (bit_xor a b) i ≡ unlike (has a i) (has b i)
xor_has = op_has bit_xor differ unlike xor_step xor_shr (table differ unlike (lit< tt) (lit< tt) (lit< tt) (lit< tt) refl refl refl refl)

drop_shared : (s t : Bool) → unlike s (s && t) ≡ s && not t
drop_shared true t = refl
drop_shared false t = refl

-- what a has and b has not, with no complement and so no width
pub less_has : (a b i : ℕ) → has (bit_xor a (bit_and a b)) i ≡ has a i && not (has b i)
less_has a b i = xor_has a (bit_and a b) i ∙ ap (unlike (has a i)) (and_has a b i) ∙ drop_shared (has a i) (has b i)

pub zero_has : (i : ℕ) → has 0 i ≡ false
unfolding has
zero_has i = ap (λ (n : ℕ). eqb (n % 2) 1) (div-eq_of_lt (pow_pos i))

-- the set with i alone
single_has : (i j : ℕ) → has (1 * 2 ^ i) j ≡ eqb j i
unfolding has
single_has zero zero = refl
single_has zero (suc j) = ap (λ (n : ℕ). eqb (n % 2) 1) (div-eq_of_lt (pow-lt (zero-lt-suc j))) ∙ sym (eqb-suc-zero j)
single_has (suc i) zero = ap (λ (n : ℕ). eqb (n % 2) 1) (div-one (1 * 2 ^ suc i)) ∙ ap (λ (n : ℕ). eqb n 1) (shifted_even 1 i) ∙ sym (eqb-zero-suc i)
single_has (suc i) (suc j) =
    ap (λ (n : ℕ). eqb (n % 2) 1) (sym (shr-shr (1 * 2 ^ suc i) 1 j ∙ ap (λ (k : ℕ). 1 * 2 ^ suc i / 2 ^ k) (one-add j)) ∙ ap (λ (n : ℕ). n / 2 ^ j) (shifted_half 1 i))
    ∙ single_has i j ∙ sym (eqb-suc-suc j i)

-- the same of `1 << i` in a word of w bits
pub shl_has : (w i j : ℕ) → i < w → has (1 * 2 ^ i % 2 ^ w) j ≡ eqb j i
shl_has w i j h = ap (λ (n : ℕ). has n j) (shl_exact 1 i w (lit< tt) (omega arith)) ∙ single_has i j

half_has : (n i : ℕ) → has (n / 2) i ≡ has n (suc i)
unfolding has
half_has n i = ap (λ (x : ℕ). eqb (x % 2) 1) (shr-shr n 1 i ∙ ap (λ (k : ℕ). n / 2 ^ k) (one-add i))

bit_zero : (n : ℕ) → has n 0 ≡ eqb (n % 2) 1
unfolding has
bit_zero n = ap (λ (x : ℕ). eqb (x % 2) 1) (div-one n)

-- the count of trailing zeros is the lowest member
lowest_step : (w n : ℕ) → count_trailing_zeros w (n / 2) ≡ lowest (λ i. has n (suc i)) w → (r : ℕ) → n % 2 ≡ r → r < 2
    → under (n % 2) (count_trailing_zeros w (n / 2)) ≡ pick (has n 0) 0 (suc (lowest (λ i. has n (suc i)) w))
lowest_step w n ih zero e h = rw (bit_zero n, e) (ap suc ih)
lowest_step w n ih (suc zero) e h = rw (bit_zero n, e)
lowest_step w n ih (suc (suc r)) e h = absurd (not-suc-le-zero (le_of_suc-le-suc (le_of_suc-le-suc h)))

pub trailing_lowest : (w n : ℕ) → count_trailing_zeros w n ≡ lowest (has n) w
unfolding count_trailing_zeros lowest
trailing_lowest zero n = refl
trailing_lowest (suc w) n =
    lowest_step w n (trailing_lowest w (n / 2) ∙ ap (λ (p : ℕ → Bool). lowest p w) (λ k i. half_has n i k)) (n % 2) refl (mod-lt n (zero-lt-suc 1))

-- ---- the operations on words, as the functions' contracts say them

pub none_is : has 0 ≡ none
unfolding none
none_is = λ k j. zero_has j k

pub both_is : (a b : ℕ) → has (bit_and a b) ≡ both (has a) (has b)
unfolding both
both_is a b = λ k j. and_has a b j k

pub either_is : (a b : ℕ) → has (bit_or a b) ≡ either (has a) (has b)
unfolding either
either_is a b = λ k j. or_has a b j k

pub less_is : (a b : ℕ) → has (bit_xor a (bit_and a b)) ≡ less (has a) (has b)
unfolding less
less_is a b = λ k j. less_has a b j k

pub with_is : (w a i : ℕ) → i < w → has (bit_or a (1 * 2 ^ i % 2 ^ w)) ≡ with (has a) i
unfolding with
with_is w a i h = λ k j. (or_has a (1 * 2 ^ i % 2 ^ w) j ∙ ap (λ (b : Bool). has a j || b) (shl_has w i j h)) k

pub without_is : (w a i : ℕ) → i < w → has (bit_xor a (bit_and a (1 * 2 ^ i % 2 ^ w))) ≡ without (has a) i
unfolding without
without_is w a i h = λ k j. (less_has a (1 * 2 ^ i % 2 ^ w) j ∙ ap (λ (b : Bool). has a j && not b) (shl_has w i j h)) k

-- a row of n ones has the numbers below n
ones_half : (n : ℕ) → (2 ^ suc n - 1) / 2 ≡ 2 ^ n - 1
ones_half n =
    let p : 0 < 2 ^ n = pow_pos n in
    let e : 2 ^ suc n ≡ 2 ^ n * 2 = pow-suc 2 n in
    omega arith

ones_odd : (n : ℕ) → (2 ^ suc n - 1) % 2 ≡ 1
ones_odd n =
    let p : 0 < 2 ^ n = pow_pos n in
    let e : 2 ^ suc n ≡ 2 ^ n * 2 = pow-suc 2 n in
    omega arith

ltb_suc : (j n : ℕ) → ltb (suc j) (suc n) ≡ ltb j n
ltb_suc j n = go (ltb j n) refl
  where
    go : (b : Bool) → ltb j n ≡ b → ltb (suc j) (suc n) ≡ b
    go true e = lt-ltb (suc j) (suc n) (omega (arith, ltb-true j n e))
    go false e = le-ltb (suc j) (suc n) (omega (arith, ltb-false j n e))

ones_has : (n j : ℕ) → has (2 ^ n - 1) j ≡ ltb j n
ones_has zero j = zero_has j ∙ sym (le-ltb j 0 (omega arith))
ones_has (suc n) zero = bit_zero (2 ^ suc n - 1) ∙ ap (λ (x : ℕ). eqb x 1) (ones_odd n) ∙ sym (lt-ltb 0 (suc n) (omega arith))
ones_has (suc n) (suc j) = sym (half_has (2 ^ suc n - 1) j) ∙ ap (λ (x : ℕ). has x j) (ones_half n) ∙ ones_has n j ∙ sym (ltb_suc j n)

-- the same of `(1 << n) - 1` in a word of w bits
pub below_is : (w n : ℕ) → n < w → has (1 * 2 ^ n % 2 ^ w - 1) ≡ below n
unfolding below
below_is w n h = λ k j. (ap (λ (x : ℕ). has (x - 1) j) (shl_exact 1 n w (lit< tt) (omega arith) ∙ one-mul (2 ^ n)) ∙ ones_has n j) k

pub all-is : (n : ℕ) → has (2 ^ n - 1) ≡ below n
unfolding below
all-is n = λ k j. ones_has n j k

pub shl_some : (w n : ℕ) → n < w → 1 ≤ 1 * 2 ^ n % 2 ^ w
shl_some w n h =
    let e : 1 * 2 ^ n % 2 ^ w ≡ 2 ^ n = shl_exact 1 n w (lit< tt) (omega arith) ∙ one-mul (2 ^ n) in
    let p : 0 < 2 ^ n = pow_pos n in
    omega arith

-- ---- the complement of a word of w bits, and what a word has and another has not by it

complement_half : (w b : ℕ) → b < 2 ^ suc w → (2 ^ suc w - 1 - b) / 2 ≡ 2 ^ w - 1 - b / 2
complement_half w b h = let e : 2 ^ suc w ≡ 2 ^ w * 2 = pow-suc 2 w in omega arith

complement_digit : (w b : ℕ) → b < 2 ^ suc w → (2 ^ suc w - 1 - b) % 2 ≡ 1 - b % 2
complement_digit w b h = let e : 2 ^ suc w ≡ 2 ^ w * 2 = pow-suc 2 w in omega arith

other_digit : (n : ℕ) → n < 2 → eqb (1 - n) 1 ≡ not (eqb n 1)
other_digit zero h = refl
other_digit (suc zero) h = refl
other_digit (suc (suc n)) h = absurd (not-suc-le-zero (le_of_suc-le-suc (le_of_suc-le-suc h)))

-- a number below w is in the complement where it is not in the word
not_has : (w b i : ℕ) → b < 2 ^ w → i < w → has (2 ^ w - 1 - b) i ≡ not (has b i)
not_has zero b i h l = absurd (not-suc-le-zero l)
not_has (suc w) b zero h l =
    bit_zero (2 ^ suc w - 1 - b) ∙ ap (λ (x : ℕ). eqb x 1) (complement_digit w b h) ∙ other_digit (b % 2) (mod-lt b (zero-lt-suc 1)) ∙ ap not (sym (bit_zero b))
not_has (suc w) b (suc i) h l =
    let e : 2 ^ suc w ≡ 2 ^ w * 2 = pow-suc 2 w in
    sym (half_has (2 ^ suc w - 1 - b) i) ∙ ap (λ (x : ℕ). has x i) (complement_half w b h) ∙ not_has w (b / 2) i (omega arith) (omega arith) ∙ ap not (half_has b i)

-- a word of w bits has no number from w on
past_has : (w a i : ℕ) → a < 2 ^ w → w ≤ i → has a i ≡ false
unfolding has
past_has w a i h l = ap (λ (n : ℕ). eqb (n % 2) 1) (div-eq_of_lt (lt_of_lt_of_le h (pow-le-pow_right (zero-lt-suc 1) l)))

-- what a has and b has not, by the complement of b
less_not_has : (w a b i : ℕ) → a < 2 ^ w → b < 2 ^ w → has (bit_and a (2 ^ w - 1 - b)) i ≡ has a i && not (has b i)
less_not_has w a b i h k = and_has a (2 ^ w - 1 - b) i ∙ go (dec_lt i w)
  where
    go : Dec (i < w) → has a i && has (2 ^ w - 1 - b) i ≡ has a i && not (has b i)
    go (yes l) = ap (λ (x : Bool). has a i && x) (not_has w b i k l)
    go (no g) = let u : w ≤ i = omega arith in rw (past_has w a i h u)

pub less_not : (w a b : ℕ) → a < 2 ^ w → b < 2 ^ w → has (bit_and a (2 ^ w - 1 - b)) ≡ less (has a) (has b)
unfolding less
less_not w a b h k = λ t j. less_not_has w a b j h k t

pub without_not : (w a i : ℕ) → a < 2 ^ w → i < w → has (bit_and a (2 ^ w - 1 - 1 * 2 ^ i % 2 ^ w)) ≡ without (has a) i
unfolding without
without_not w a i h l =
    λ t j. (less_not_has w a (1 * 2 ^ i % 2 ^ w) j h (mod-lt (1 * 2 ^ i) (pow_pos w)) ∙ ap (λ (b : Bool). has a j && not b) (shl_has w i j l)) t
