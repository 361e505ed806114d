-- The walk over the parts that pass up to a question.
use mathlib.Core.Path.{◌≡◌}
use mathlib.Core.List.{List}
use Prim.Native.Nat.{ℕ, ◌+◌, ◌*◌, ◌-◌, ◌≤◌, ◌<◌}
use native.Mathlib.Omega.{arith}
use native.Mathlib.Decide.{dec_lt}
use lib.ListN.{length, take, drop}
use Rattle.records.specs.Fields.{functions, count_of}
use Rattle.records.specs.Parts.{start_of, part_of, Laid}
use Rattle.records.proofs.PartWalks.{part_taken, part_length, part_fits_lem}
use Rattle.spec_language.proofs.Accept.{none_asked}
use Rattle.check_pass.specs.Passed.{ClearBelow}
use Rattle.check_file.specs.Stages.{PassedBefore, PartsWithin}

module _ (s : List ℕ) where
  -- in the parts of the first f functions the questions from 7 to before r find nothing
  pub record Cleared (f r : ℕ) : Type 0 where
    pub at : (k : ℕ) → k < f → ClearBelow s k (part_of s k) (count_of s k) r

  pub cleared_none : (r : ℕ) → Cleared 0 r
  cleared_none r = record { at = λ k l. absurd (omega arith) }

  pub cleared_all : (f F r : ℕ) → F ≡ functions s → F ≤ f → Cleared f r → PassedBefore s r
  cleared_all f F r e l h q p m = none_asked s q (λ k n. h.at k (omega arith) q p m)

module _ (s : List ℕ) (laid : Laid s) {F f start n : ℕ} (e : F ≡ functions s) (l : f < F) (a : start ≡ start_of s f) (b : n ≡ count_of s f) where
  known_function : f < functions s
  known_function = rw e at l

  abbrev taken : List ℕ
  taken = take (12 * (start + n) - 12 * start) (drop (12 * start) s)

  pub part_room : 12 * (start + n) ≤ length s
  part_room = part_fits_lem s f a b laid known_function

  pub part_within : (k : ℕ) → PartsWithin s k → n ≤ k
  part_within k h = omega (arith, h f known_function)

  pub part_asks : (Laid s × (f < functions s)) × ((12 * n ≤ length taken) × (1 ≤ n) × (n ≤ 4096))
  part_asks =
      let k = known_function in
      let t : taken ≡ part_of s f = part_taken s f a b in
      let z = part_length s f (laid.fits f k) in
      ((laid, k), (rw t (omega arith), omega (arith, laid.some f k), omega (arith, laid.small f k)))

  pub cleared_next : {own least lowest : ℕ} → lowest ≤ own → lowest ≤ least → Cleared s f least → ClearBelow s f taken n own → Cleared s (f + 1) lowest
  cleared_next {own} {least} {lowest} u w h c = record { at = λ k m. go k m (dec_lt k f) }
    where
      go : (k : ℕ) → k < f + 1 → Dec (k < f) → ClearBelow s k (part_of s k) (count_of s k) lowest
      go k m (yes p) q x y = h.at k p q x (omega arith)
      go k m (no p) q x y =
          let z : k ≡ f = omega arith in
          let t : taken ≡ part_of s f = part_taken s f a b in
          rw z (rw (t, b) at (c q x (omega arith)))
