-- Casts between words and signed integers.
use Rattle.std.proofs.Common.{◌≡◌, ℕ, suc, ◌^◌, ◌<◌, ◌≤◌, true, false, ℤ, pos, negsuc, ◌+ℤ◌, sym, ap, ◌∙◌, true≢false, arith, w32, w64, SFits, to_z, of_z, le-ltb}
use Rattle.std.proofs.Math.Facts.{sfits_widen}
use mathlib.Core.Bool.{false≢true}
use native.Mathlib.Decide.{dec_lt}
use lib.Dec.{leb-zero}
use lib.Signed.{le_z}
use mir.ValLaws.{to_z_pos, to_z-of_z}
use Rattle.arith.specs.Int.{int, wrap}
use Rattle.arith.proofs.WordInts.{low_int, high_int, int_fits}

-- the integer that a word is read as, after it was stored
pub stored : {x : ℤ} (a : ℕ) → a < 2 ^ 32 → x ≡ int a → to_z w32 (of_z w32 x) ≡ int a
stored a h e = rw e (to_z-of_z w32 (int a) (int_fits a h))

-- the word of what f makes of that integer
pub computed : {x : ℤ} {r : ℕ} (f : ℤ → ℤ) (a : ℕ) → a < 2 ^ 32 → x ≡ int a → SFits w32 (f (int a))
    → r ≡ wrap (to_z w32 (of_z w32 (f (to_z w32 (of_z w32 x))))) → r ≡ wrap (f (int a))
computed f a h e k q = rw (stored a h e, to_z-of_z w32 (f (int a)) k) at q

pub low_cast : (a : ℕ) → a < 2 ^ 31 → to_z w32 a ≡ int a
low_cast a h = to_z_pos w32 a h ∙ sym (low_int a h)

-- the bits of a word, read as signed
pub signed_is : (a : ℕ) → a < 2 ^ 32 → to_z w32 a ≡ int a
signed_is a h = go (dec_lt a (2 ^ 31))
  where
    go : Dec (a < 2 ^ 31) → to_z w32 a ≡ int a
    go (yes l) = low_cast a l
    go (no g) = let u : 2 ^ 31 ≤ a = omega arith in rw (le-ltb a (2 ^ 31) u) (sym (high_int a u h))

-- an integer from 0 on
pub not_negative : (z : ℤ) → SFits w32 z → le_z (pos 0) (to_z w32 (of_z w32 z)) ≡ true → to_z w32 (of_z w32 z) ≡ pos (wrap z)
unfolding wrap
not_negative z f h = go z f (to_z-of_z w32 z f) (rw (to_z-of_z w32 z f) at h)
  where
    go : (y : ℤ) → SFits w32 y → to_z w32 (of_z w32 y) ≡ y → le_z (pos 0) y ≡ true → to_z w32 (of_z w32 y) ≡ pos (wrap y)
    go (pos n) g e k = let u : n < 2 ^ 31 = g.sfits in e ∙ ap pos (omega arith)
    go (negsuc n) g e k = absurd (false≢true k)

-- a negative integer and 2 ^ 32, at 64 bits
pub plus_all : (z : ℤ) → SFits w32 z → le_z (pos 0) (to_z w32 (of_z w32 z)) ≡ false
    → to_z w64 (of_z w64 (to_z w32 (of_z w32 z))) +ℤ pos (2 ^ 32) ≡ pos (wrap z)
unfolding wrap
plus_all z f h = rw (to_z-of_z w32 z f, to_z-of_z w64 z (sfits_widen tt f)) (go z f (rw (to_z-of_z w32 z f) at h))
  where
    go : (y : ℤ) → SFits w32 y → le_z (pos 0) y ≡ false → y +ℤ pos (2 ^ 32) ≡ pos (wrap y)
    go (pos n) g k = absurd (true≢false (sym (leb-zero n) ∙ k))
    go (negsuc n) g k =
        let u : n < 2 ^ 31 = g.sfits in
        let v : suc n ≤ 2 ^ 32 = omega arith in
        rw (le-ltb (2 ^ 32) (suc n) v) (ap pos (omega arith))
