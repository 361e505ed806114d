-- The tests of the rooms and of the whole by the ways through the code.
use mathlib.Core.Path.{◌≡◌}
use mathlib.Core.Bool.{true, false, ◌&&◌}
use mathlib.Core.List.{List}
use Prim.Native.Nat.{ℕ, ◌+◌, ◌*◌, ◌-◌, ◌<◌, ◌≤◌}
use native.Mathlib.Omega.{arith}
use lib.ListN.{get_or, take, drop}
use borrow.Author.Tests.{le-leb, lt-leb}
use Rattle.words.specs.Blocks.{all_zero}
use Rattle.words.proofs.Tests.{both}
use Rattle.spec_machine.specs.Fit.{frame_limit}
use Rattle.spec_image.specs.Decode.{held_in}
use Rattle.fit_image.specs.BlockTests.{frame_ok, activation_ok}
use Rattle.fit_image.specs.MemoryTest.{passing, tag_ok, head_ok, activations_ok, frames_ok, env_ok, image_ok}
use Rattle.fit_image.proofs.Runs.{few_said}

module _ (l : List ℕ) (n : ℕ) where
  pub activations_less : passing 136 activation_ok l 128 n ≡ false → false ≡ activations_ok l n
  unfolding activations_ok
  activations_less e = rw e

  pub activations_end : passing 136 activation_ok l 128 n ≡ true → all_zero (take (4480 - (128 + n * 136)) (drop (128 + n * 136) l)) ≡ activations_ok l n
  unfolding activations_ok
  activations_end e = let k : 4480 - (128 + n * 136) ≡ (32 - n) * 136 = omega arith in rw (e, k)

  pub frames_less : passing 20 frame_ok l 4480 n ≡ false → false ≡ frames_ok l n
  unfolding frames_ok
  frames_less e = rw e

  pub frames_end : passing 20 frame_ok l 4480 n ≡ true → all_zero (take (14720 - (4480 + n * 20)) (drop (4480 + n * 20) l)) ≡ frames_ok l n
  unfolding frames_ok
  frames_end e = let k : 14720 - (4480 + n * 20) ≡ (512 - n) * 20 = omega arith in rw (e, k)

module _ (l : List ℕ) where
  pub head_less : head_ok l ≡ false → false ≡ image_ok l
  unfolding image_ok
  head_less e = rw e

  module _ (n : ℕ) (count : n ≡ get_or l 2 0) (h : head_ok l ≡ true) where
    pub head_few : n ≤ 32
    unfolding head_ok
    head_few =
        let t = both (tag_ok (get_or l 0 0) (get_or l 1 0) (get_or l 2 0) (get_or l 3 0) (get_or l 4 0)) (all_zero (take 123 (drop 5 l))) h in
        omega (arith, few_said _ _ _ _ _ t.0)

    pub image_less : activations_ok l n ≡ false → false ≡ image_ok l
    unfolding image_ok
    image_less e = rw (h, ← count, e)

    module _ (a : activations_ok l n ≡ true) (k : ℕ) (held : k ≡ held_in l n) where
      pub image_many : frame_limit < k → false ≡ image_ok l
      unfolding image_ok
      image_many e = rw (h, ← count, a, ← held, lt-leb k frame_limit e)

      pub image_end : k ≤ frame_limit → (frames_ok l k && env_ok (get_or l 0 0) (take 1664 (drop 14720 l))) ≡ image_ok l
      unfolding image_ok
      image_end e = rw (h, ← count, a, ← held, le-leb k frame_limit e)
