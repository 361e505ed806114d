-- The image of a state within the limits, and narrow, passes.
use mathlib.Core.Path.{◌≡◌, refl, sym, ap, ◌∙◌}
use mathlib.Core.Bool.{true}
use mathlib.Core.List.{List, ◌++◌, append_assoc}
use mathlib.Core.Option.{none, some}
use Prim.Native.Nat.{ℕ, suc, ◌≤◌}
use native.Mathlib.Omega.{arith}
use lib.ListN.{length, get_or, take, drop, length-append, length-drop}
use lib.Seq.{drop-append-le, take-append-le, take_at}
use borrow.Author.Tests.{le-leb}
use Rattle.words.specs.Blocks.{all_zero}
use Rattle.words.specs.Stacks.{Wide, total}
use Rattle.words.proofs.Stacks.{every, drop_region}
use Rattle.words.proofs.Entries.{region_zeros}
use Rattle.spec_machine.specs.Values.{nothing, int, truth}
use Rattle.spec_machine.specs.Machine.{Exception, abort, val, eval, exec, State, exception, calling, returned, running}
use Rattle.spec_machine.specs.Fit.{WithinLimits, caller_limit, frame_limit}
use Rattle.spec_image.specs.Layout.{filled, frame_words, control_words, activation_words}
use Rattle.spec_image.specs.Image.{head_words, activations_of, frames_of, env_part, image}
use Rattle.spec_image.specs.Decode.{frames_held, held_in, activations_in}
use Rattle.spec_image.specs.Sizes.{size}
use Rattle.spec_image.specs.Memory.{Holds}
use Rattle.spec_image.specs.Narrow.{NarrowFrame, NarrowActivation, Narrow}
use Rattle.spec_image.proofs.BlockLengths.{length-filled, frame_wide, activation_wide, every_so}
use Rattle.spec_image.proofs.Images.{length_frames, few_frames, frames_held_lem, activation_region, frame_region, length_part, length_activations, image_parts, head_word_lem, count_in, activations_in_lem}
use Rattle.spec_image.proofs.Memory.{held_whole}
use Rattle.fit_image.specs.BlockTests.{frame_ok, activation_ok}
use Rattle.fit_image.specs.MemoryTest.{tag_ok, head_ok, activations_ok, frames_ok, env_ok, image_ok}
use Rattle.fit_image.proofs.SlotTests.{control_pass}
use Rattle.fit_image.proofs.BlockTests.{frame_passes, activation_passes}
use Rattle.fit_image.proofs.Environments.{env_passes}
use Rattle.fit_image.proofs.Passing.{passing_region}

-- ---- the head

tag_passes : (s : State) → WithinLimits s → let H = head_words s in tag_ok (get_or H 0 0) (get_or H 1 0) (get_or H 2 0) (get_or H 3 0) (get_or H 4 0) ≡ true
unfolding head_words tag_ok
tag_passes (State.value c) w = refl
tag_passes (exception Exception.arith) w = refl
tag_passes (exception abort) w = refl
tag_passes (calling α none) w = refl
tag_passes (calling α (some n)) w = refl
tag_passes (returned α c) w = refl
tag_passes (running c α f η K A) w =
    let a : 1 ≤ suc (length A) = omega arith in
    let b : suc (length A) ≤ caller_limit = omega (arith, w.0) in
    rw (le-leb 1 (suc (length A)) a, le-leb (suc (length A)) caller_limit b) (control_pass c)

head_zeros : (s : State) → all_zero (take 123 (drop 5 (filled 128 (head_words s)))) ≡ true
unfolding filled head_words control_words
head_zeros (State.value c) = refl
head_zeros (exception Exception.arith) = refl
head_zeros (exception abort) = refl
head_zeros (calling α none) = refl
head_zeros (calling α (some n)) = refl
head_zeros (returned α c) = refl
head_zeros (running (val nothing) α f η K A) = refl
head_zeros (running (val (int n)) α f η K A) = refl
head_zeros (running (val (truth b)) α f η K A) = refl
head_zeros (running (eval n) α f η K A) = refl
head_zeros (running (exec r) α f η K A) = refl

few : (s : State) → WithinLimits s → length (frames_of s) ≤ frame_limit
unfolding frames_of
few (State.value c) w = omega arith
few (exception x) w = omega arith
few (calling α o) w = omega arith
few (returned α c) w = omega arith
few (running c α f η K A) w = simp (length-append, length_frames A) w.1

module _ (s : State) (R : List ℕ) (w : WithinLimits s) (n : Narrow s) where
  head_passes : head_ok (image s ++ R) ≡ true
  unfolding head_ok
  head_passes =
      let H = filled 128 (head_words s) in
      let k : length H ≡ 128 = length-filled 128 (head_words s) in
      let z : (T : List ℕ) → take 123 (drop 5 (H ++ T)) ≡ take 123 (drop 5 H)
      = λ T. rw (drop-append-le 5 H T (omega arith)) (take-append-le 123 (drop 5 H) T (simp length-drop (omega arith))) in
      let o : all_zero (take 123 (drop 5 (image s ++ R))) ≡ true = rw (image_parts s R, z (activation_region s ++ (frame_region s ++ (env_part s ++ R)))) (head_zeros s) in
      rw (
        head_word_lem s R 0 (omega arith),
        head_word_lem s R 1 (omega arith),
        head_word_lem s R 2 (omega arith),
        head_word_lem s R 3 (omega arith),
        head_word_lem s R 4 (omega arith),
        tag_passes s w,
        o,
      )

  activations_pass : activations_ok (image s ++ R) (length (activations_of s)) ≡ true
  unfolding activations_ok
  activations_pass =
      let H = filled 128 (head_words s) in
      let T = frame_region s ++ (env_part s ++ R) in
      let k : length H ≡ 128 = length-filled 128 (head_words s) in
      let v = every (Wide 136 activation_words) activation_wide (activations_of s) in
      let c = every_so NarrowActivation (λ a. activation_ok (activation_words a) ≡ true) activation_passes (activations_of s) n.activations in
      rw (
        image_parts s R,
        passing_region 136 activation_words activation_ok H T 32 128 (activations_of s) k v c,
        region_zeros 136 activation_words H T 32 128 (activations_of s) k v,
      )

  -- what lies before the frames
  abbrev under : List ℕ
  under = filled 128 (head_words s) ++ activation_region s

  under_long : length under ≡ 4480
  under_long = omega (arith, length-append (filled 128 (head_words s)) (activation_region s), length-filled 128 (head_words s), length_activations s w)

  over_under : image s ++ R ≡ under ++ (frame_region s ++ (env_part s ++ R))
  over_under = image_parts s R ∙ sym (append_assoc (filled 128 (head_words s)) (activation_region s) _)

  frames_pass : frames_ok (image s ++ R) (length (frames_of s)) ≡ true
  unfolding frames_ok
  frames_pass =
      let v = every (Wide 20 frame_words) frame_wide (frames_of s) in
      let c = every_so NarrowFrame (λ f. frame_ok (frame_words f) ≡ true) frame_passes (frames_of s) n.frames in
      rw (
        over_under,
        passing_region 20 frame_words frame_ok under (env_part s ++ R) 512 4480 (frames_of s) under_long v c,
        region_zeros 20 frame_words under (env_part s ++ R) 512 4480 (frames_of s) under_long v,
      )

  environment_passes : env_ok (get_or (image s ++ R) 0 0) (take 1664 (drop 14720 (image s ++ R))) ≡ true
  environment_passes =
      let v = every (Wide 20 frame_words) frame_wide (frames_of s) in
      let d : drop 14720 (image s ++ R) ≡ env_part s ++ R = rw over_under (drop_region 20 frame_words under (env_part s ++ R) 512 4480 (frames_of s) under_long v (few_frames s w)) in
      rw (head_word_lem s R 0 (omega arith), d, take_at (env_part s) R 1664 (length_part s)) (env_passes s)

  held_in_lem : held_in (image s ++ R) (get_or (image s ++ R) 2 0) ≡ length (frames_of s)
  unfolding activations_in
  held_in_lem = ap (total frames_held) (activations_in_lem s R n) ∙ frames_held_lem s

  image_passes : image_ok (image s ++ R) ≡ true
  unfolding image_ok
  image_passes =
      let c : get_or (image s ++ R) 2 0 ≡ length (activations_of s) = head_word_lem s R 2 (omega arith) ∙ count_in s in
      let h : held_in (image s ++ R) (length (activations_of s)) ≡ length (frames_of s) = rw c at held_in_lem in
      rw (head_passes, c, activations_pass, h, le-leb (length (frames_of s)) frame_limit (few s w), frames_pass) environment_passes

-- a memory that holds a state within the limits, and narrow, passes
pub image_complete : (l : List ℕ) (s : State) → WithinLimits s → Narrow s → Holds l s → image_ok l ≡ true
image_complete l s w n h = ap image_ok (held_whole l s h) ∙ image_passes s (drop size l) w n
