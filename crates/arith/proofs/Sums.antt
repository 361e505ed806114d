-- Sums, differences and products of words modulo 2 ^ 32 are those of the integers that they are read as.
use Rattle.std.proofs.Common.{◌≡◌, ℕ, zero, suc, ◌+◌, ◌-◌, ◌*◌, ◌%◌, ◌^◌, ◌<◌, ◌≤◌, ℤ, pos, ◌+ℤ◌, ◌-ℤ◌, ◌*ℤ◌, neg_ℤ, sym, refl, ◌∙◌, mul_comm, add-mul, add_comm, mul-add, arith, le-ltb, lt-ltb}
use native.Mathlib.Nat.{mul-mod_left}
use native.Mathlib.Decide.{dec_lt}
use lib.IntN.{sub_ℕ}
use Rattle.arith.specs.Int.{wrap}
use Rattle.arith.specs.Operators.{add_of, sub_of, mul_of, shl_of}
use Rattle.arith.proofs.WordInts.{Read, low, high, reading}

wrap_neg : (k x : ℕ) → (x + k) % 2 ^ 32 ≡ 0 → wrap (neg_ℤ (pos k)) ≡ x % 2 ^ 32
unfolding wrap
wrap_neg zero x h = omega arith
wrap_neg (suc k) x h = omega arith

wrap_sub : (a b x : ℕ) → (x + b) % 2 ^ 32 ≡ a % 2 ^ 32 → wrap (sub_ℕ a b) ≡ x % 2 ^ 32
unfolding wrap
wrap_sub a b x h = go (dec_lt a b)
  where
    go : Dec (a < b) → wrap (sub_ℕ a b) ≡ x % 2 ^ 32
    go (yes l) = rw (lt-ltb a b l) (omega arith)
    go (no g) = let u : b ≤ a = omega arith in rw (le-ltb a b u) (omega arith)

add_read : {a b : ℕ} {x y : ℤ} → Read a x → Read b y → wrap (x +ℤ y) ≡ (a + b) % 2 ^ 32
unfolding wrap
add_read (low h) (low k) = refl
add_read {a} {b} (low h) (high n k e) = wrap_sub a (suc n) (a + b) (omega arith)
add_read {a} {b} (high n h e) (low k) = wrap_sub b (suc n) (a + b) (omega arith)
add_read (high n h e) (high m k f) = omega arith

pub add_law : (a b : ℕ) → a < 2 ^ 32 → b < 2 ^ 32 → add_of a b ≡ (a + b) % 2 ^ 32
unfolding add_of
add_law a b h k = add_read (reading a h) (reading b k)

sub_pos : {a : ℕ} {x : ℤ} (b : ℕ) → b < 2 ^ 31 → Read a x → wrap (x -ℤ pos b) ≡ (a + (2 ^ 32 - b)) % 2 ^ 32
unfolding wrap
sub_pos zero k (low h) = omega arith
sub_pos {a} zero k (high n h e) = wrap_sub 0 (suc n) (a + (2 ^ 32 - 0)) (omega arith)
sub_pos {a} (suc b) k (low h) = wrap_sub a (suc b) (a + (2 ^ 32 - suc b)) (omega arith)
sub_pos {a} (suc b) k (high n h e) = omega arith

sub_read : {a b : ℕ} {x y : ℤ} → Read a x → Read b y → wrap (x -ℤ y) ≡ (a + (2 ^ 32 - b)) % 2 ^ 32
unfolding wrap
sub_read {a} {b} p (low k) = sub_pos b k p
sub_read {a} {b} (low h) (high n k e) = omega arith
sub_read {a} {b} (high n h e) (high m k f) = wrap_sub (suc m) (suc n) (a + (2 ^ 32 - b)) (omega arith)

pub sub_law : (a b : ℕ) → a < 2 ^ 32 → b < 2 ^ 32 → sub_of a b ≡ (a + (2 ^ 32 - b)) % 2 ^ 32
unfolding sub_of
sub_law a b ha hb = sub_read (reading a ha) (reading b hb)

complement : (X Y Z p q : ℕ) → X + Y ≡ p * 2 ^ 32 → Z + Y ≡ q * 2 ^ 32 → X % 2 ^ 32 ≡ Z % 2 ^ 32
complement X Y Z p q h k = omega arith

mul-pos : {a : ℕ} {x : ℤ} (b : ℕ) → Read a x → wrap (x *ℤ pos b) ≡ (a * b) % 2 ^ 32
unfolding wrap
mul-pos b (low h) = refl
mul-pos {a} b (high n h e) =
    wrap_neg (suc n * b) (a * b) (rw (← add-mul a (suc n) b, e, mul_comm) (mul-mod_left b (2 ^ 32)))

mul_read : {a b : ℕ} {x y : ℤ} → Read a x → Read b y → wrap (x *ℤ y) ≡ (a * b) % 2 ^ 32
unfolding wrap
mul_read {b = b} r (low k) = mul-pos b r
mul_read {a} {b} (low h) (high n k e) =
    wrap_neg (a * suc n) (a * b) (rw (← mul-add a b (suc n), e) (mul-mod_left a (2 ^ 32)))
mul_read {a} {b} (high n h e) (high m k f) =
    complement (suc n * suc m) (a * suc m) (a * b) (suc m) a
    (add_comm _ _ ∙ sym (add-mul a (suc n) (suc m)) ∙ rw (e, mul_comm)) (sym (mul-add a b (suc m)) ∙ rw f)

pub mul_law : (a b : ℕ) → a < 2 ^ 32 → b < 2 ^ 32 → mul_of a b ≡ (a * b) % 2 ^ 32
unfolding mul_of
mul_law a b h k = mul_read (reading a h) (reading b k)

pub shl_law : (a count : ℕ) → a < 2 ^ 32 → shl_of a count ≡ (a * 2 ^ count) % 2 ^ 32
unfolding shl_of
shl_law a count h = mul-pos (2 ^ count) (reading a h)
