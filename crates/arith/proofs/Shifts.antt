-- Where a shift raises arith; elsewhere its count is its low five bits.
use Rattle.std.proofs.Common.{◌≡◌, ℕ, zero, suc, ◌%◌, ◌^◌, ◌<◌, Bool, true, false, not, ◌&&◌, ◌||◌, eqb, leb, ◌⊎◌, ℤ, pos, sym, refl, ◌∙◌, inl, inr, true≢false, arith, le-leb, leb-false}
use mathlib.Core.Bool.{and-false}
use lib.Dec.{leb-suc-zero}
use lib.Signed.{lt_z}
use Rattle.varset.specs.Lowest.{pick}
use Rattle.arith.specs.Operators.{shl_of, shr_of, no_shift, shifted, results, applied}
use Rattle.arith.specs.declared.Applied.TheVariants.{Int, Arith}
use Rattle.arith.proofs.WordInts.{Read, low, high, reading}

-- of a word, below 0 or above 31 is 32 or more
pub no_shift_lem : (b : ℕ) → b < 2 ^ 32 → no_shift b ≡ leb 32 b
unfolding no_shift
no_shift_lem b h = go (reading b h)
  where
    go : {z : ℤ} → Read b z → (lt_z z (pos 0) || lt_z (pos 31) z) ≡ leb 32 b
    go (low l) = rw (leb-suc-zero b)
    go (high n l e) = sym (le-leb 32 b (omega arith))

module _ (edition b : ℕ) (shift : ℕ → ℕ) where
  -- where the code raises arith, the shift does
  pub shift_raises : (not (eqb edition 0) && no_shift b) ≡ true → Arith ≡ shifted edition shift b
  unfolding shifted
  shift_raises e = go (eqb edition 0) (no_shift b) e
    where
      go : (t u : Bool) → (not t && u) ≡ true → Arith ≡ pick t (Int (shift (b % 32))) (pick u Arith (Int (shift b)))
      go true u e = absurd (true≢false (sym e))
      go false true e = refl
      go false false e = absurd (true≢false (sym e))

  -- elsewhere it gives what the low five bits give
  pub shift_gives : b < 2 ^ 32 → (not (eqb edition 0) && no_shift b) ≡ false → Int (shift (b % 32)) ≡ shifted edition shift b
  unfolding shifted
  shift_gives h e = go (eqb edition 0) (no_shift b) refl e
    where
      go : (t u : Bool) → no_shift b ≡ u → (not t && u) ≡ false → Int (shift (b % 32)) ≡ pick t (Int (shift (b % 32))) (pick u Arith (Int (shift b)))
      go true u k e = refl
      go false true k e = absurd (true≢false e)
      go false false k e =
          let l : b < 32 = leb-false 32 b (sym (no_shift_lem b h) ∙ k) in
          let q : b % 32 ≡ b = omega arith in
          rw q

-- a shift by its number
abbrev pub Shift : ℕ → Type 0
Shift o = (o ≡ 5) ⊎ (o ≡ 6)

module _ (e edition a b : ℕ) (h : b < 2 ^ 32) where
  -- by a count from 0 to 31 both shifts give in any two editions the same
  shifted_same : (shift : ℕ → ℕ) → no_shift b ≡ false → shifted e shift b ≡ shifted edition shift b
  shifted_same shift k =
      let u : (i : ℕ) → (not (eqb i 0) && no_shift b) ≡ false = λ i. rw k (and-false (not (eqb i 0))) in
      sym (shift_gives e b shift h (u e)) ∙ shift_gives edition b shift h (u edition)

  -- so does every other operator
  pub applied-same : (o : ℕ) → (Shift o → no_shift b ≡ false) → applied e o a b ≡ applied edition o a b
  unfolding applied results
  applied-same zero k = refl
  applied-same (suc zero) k = refl
  applied-same (suc (suc zero)) k = refl
  applied-same (suc (suc (suc zero))) k = refl
  applied-same (suc (suc (suc (suc zero)))) k = refl
  applied-same (suc (suc (suc (suc (suc zero))))) k = shifted_same (shl_of a) (k (inl refl))
  applied-same (suc (suc (suc (suc (suc (suc zero)))))) k = shifted_same (shr_of a) (k (inr refl))
  applied-same (suc (suc (suc (suc (suc (suc (suc o))))))) k = refl
