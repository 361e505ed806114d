-- The walk down the frames of one activation.
use mathlib.Core.Path.{◌≡◌, ap, ◌∙◌}
use mathlib.Core.Bool.{Bool, true, false, ◌&&◌}
use mathlib.Core.List.{List}
use Prim.Native.Nat.{ℕ, suc, ◌+◌, ◌*◌, ◌-◌, ◌<◌}
use native.Mathlib.Omega.{arith}
use Rattle.words.specs.Stacks.{entries, chain}
use Rattle.spec_machine.specs.Program.{Program}
use Rattle.spec_image.specs.Decode.{frame_of}
use Rattle.fit_frames.specs.Incoming.{Incoming, frame_fits, hands_on, ends}
use Rattle.fit_frames.specs.Meaning.{frame_in}

module _ (P : Program) (f : ℕ) (m : List ℕ) (low i : ℕ) (s : Incoming) where
  abbrev down : Incoming → ℕ → Bool
  down t k = chain (frame_fits P f) (hands_on P f) ends t (entries 20 frame_of m (4480 + low * 20) k)

  opened : 0 < i → down s i ≡ (frame_fits P f s (frame_in m (low + (i - 1))) && down (hands_on P f s (frame_in m (low + (i - 1)))) (i - 1))
  opened h =
      let z : i ≡ suc (i - 1) = omega arith in
      let q : 4480 + low * 20 + (i - 1) * 20 ≡ 4480 + (low + (i - 1)) * 20 = omega arith in
      ap (down s) z ∙ rw q

  pub chain_less : 0 < i → frame_fits P f s (frame_in m (low + (i - 1))) ≡ false → down s i ≡ false
  chain_less h e = opened h ∙ rw e

  pub chain_more : 0 < i → frame_fits P f s (frame_in m (low + (i - 1))) ≡ true → down s i ≡ down (hands_on P f s (frame_in m (low + (i - 1)))) (i - 1)
  chain_more h e = opened h ∙ rw e
