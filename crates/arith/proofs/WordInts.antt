-- A word and the integer that it is read as.
use Rattle.std.proofs.Common.{◌≡◌, ℕ, suc, ◌+◌, ◌-◌, ◌%◌, ◌^◌, ◌<◌, ◌≤◌, ℤ, pos, negsuc, ◌+ℤ◌, sym, ap, ◌∙◌, arith, w32, SFits, of_z, le-ltb, lt-ltb}
use native.Mathlib.Decide.{dec_lt}
use Rattle.arith.specs.Int.{int, wrap}

-- how a word is read
pub data Read (a : ℕ) : ℤ → Type 0 where
  low : a < 2 ^ 31 → Read a (pos a)
  high : (n : ℕ) → n < 2 ^ 31 → a + suc n ≡ 2 ^ 32 → Read a (negsuc n)

pub low_int : (a : ℕ) → a < 2 ^ 31 → int a ≡ pos a
unfolding int
low_int a h = rw (lt-ltb a (2 ^ 31) h)

pub high_int : (a : ℕ) → 2 ^ 31 ≤ a → a < 2 ^ 32 → int a ≡ negsuc (2 ^ 32 - suc a)
unfolding int
high_int a g h = rw (le-ltb a (2 ^ 31) g, lt-ltb a (2 ^ 32) h)

pub reading : (a : ℕ) → a < 2 ^ 32 → Read a (int a)
reading a h = go (dec_lt a (2 ^ 31))
  where
    go : Dec (a < 2 ^ 31) → Read a (int a)
    go (yes l) = rw (low_int a l) (low l)
    go (no g) = let u : 2 ^ 31 ≤ a = omega arith in rw (high_int a u h) (high (2 ^ 32 - suc a) (omega arith) (omega arith))

read_fits : {a : ℕ} {x : ℤ} → Read a x → SFits w32 x
read_fits (low h) = record { sfits = h }
read_fits (high n h e) = record { sfits = h }

-- a word is read as an integer from −2^31 to 2^31 − 1
pub int_fits : (a : ℕ) → a < 2 ^ 32 → SFits w32 (int a)
int_fits a h = read_fits (reading a h)

wrap_read : {a : ℕ} {x : ℤ} → a < 2 ^ 32 → Read a x → wrap x ≡ a
unfolding wrap
wrap_read h (low k) = omega arith
wrap_read h (high n k e) = omega arith

-- the word of the integer that a word is read as
pub wrap_int : (a : ℕ) → a < 2 ^ 32 → wrap (int a) ≡ a
wrap_int a h = wrap_read h (reading a h)

-- the integer that the word of an integer in the range is read as
pub int_wrap : (z : ℤ) → SFits w32 z → int (wrap z) ≡ z
unfolding wrap
int_wrap (pos n) f =
    let u : n < 2 ^ 31 = f.sfits in
    let e : n % 2 ^ 32 ≡ n = omega arith in
    rw e (low_int n u)
int_wrap (negsuc n) f =
    let u : n < 2 ^ 31 = f.sfits in
    let e : 2 ^ 32 - suc (2 ^ 32 - 1 - n % 2 ^ 32) ≡ n = omega arith in
    high_int (2 ^ 32 - 1 - n % 2 ^ 32) (omega arith) (omega arith) ∙ ap negsuc e

pub wrap_below : (z : ℤ) → wrap z < 2 ^ 32
unfolding wrap
wrap_below (pos n) = omega arith
wrap_below (negsuc n) = omega arith

-- integers that are 2 ^ 32 apart have one word
pub wrap_again : (z : ℤ) → wrap (z +ℤ pos (2 ^ 32)) ≡ wrap z
unfolding wrap
wrap_again (pos n) = omega arith
wrap_again (negsuc n) = go (dec_lt (2 ^ 32) (suc n))
  where
    go : Dec (2 ^ 32 < suc n) → wrap (negsuc n +ℤ pos (2 ^ 32)) ≡ wrap (negsuc n)
    go (yes l) = rw (lt-ltb (2 ^ 32) (suc n) l) (omega arith)
    go (no g) = let u : suc n ≤ 2 ^ 32 = omega arith in rw (le-ltb (2 ^ 32) (suc n) u) (omega arith)

-- no two words are read alike
pub int_one : (a b : ℕ) → a < 2 ^ 32 → b < 2 ^ 32 → int a ≡ int b → a ≡ b
int_one a b h k e = sym (wrap_int a h) ∙ ap wrap e ∙ wrap_int b k

-- the word of an integer in the range is its bits
pub wrap_of_z : (z : ℤ) → SFits w32 z → wrap z ≡ of_z w32 z
unfolding wrap
wrap_of_z (pos n) h = let u : n < 2 ^ 31 = h.sfits in omega arith
wrap_of_z (negsuc n) h = let u : n < 2 ^ 31 = h.sfits in omega arith
