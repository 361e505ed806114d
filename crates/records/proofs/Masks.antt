-- A mask against 2 to the number of parameters.
use mathlib.Core.Path.{◌≡◌, sym}
use mathlib.Core.Bool.{true}
use Prim.Native.Nat.{ℕ, ◌*◌, ◌%◌, ◌^◌, ◌≤◌, ◌<◌}
use native.Mathlib.Nat.{one-mul}
use native.Mathlib.Omega.{arith}
use lib.Dec.{ltb, lit<}
use lib.Pow.{shl_exact, pow_mono}
use borrow.Author.Tests.{lt-ltb}

-- 2 to a power of up to 8 in a word of 32 bits
pub mask_exact : (mask p : ℕ) → p ≤ 8 → ltb mask (1 * 2 ^ p % 4294967296) ≡ ltb mask (2 ^ p)
mask_exact mask p h = rw (shl_exact 1 p 32 (lit< tt) (omega arith), one-mul)

-- a mask of eight bits fits where there are eight parameters or more
pub mask_any : (mask p : ℕ) → mask < 256 → 8 < p → true ≡ ltb mask (2 ^ p)
mask_any mask p m h = sym (lt-ltb mask (2 ^ p) (omega (arith, pow_mono {i = 8} {j = p} (omega arith))))
