-- Blocks and whole memories that pass and that do not, by computation.
use mathlib.Core.Path.{◌≡◌, refl}
use mathlib.Core.Bool.{true, false}
use mathlib.Core.List.{List, [], ◌∷◌, ◌++◌, map}
use mathlib.Core.Option.{none, some}
use Prim.Native.Nat.{ℕ}
use lib.ListN.{take, replicate}
use Rattle.spec_machine.specs.Values.{nothing, int, truth}
use Rattle.spec_machine.specs.Program.{op, fn, node, if_of}
use Rattle.spec_machine.specs.Machine.{arith, abort, Frame, gather, and, wait, branch, check, val, saved, empty_env, State, exception, calling, main_call, returned, running}
use Rattle.spec_image.specs.Layout.{filled, bit, value_words, values_words, nodes_words, ref_word, block, gathering, frame_words, control_words, activation, activation_words, env_words}
use Rattle.spec_image.specs.Decode.{activation_of, frames_held}
use Rattle.spec_image.specs.Image.{saved_activations, saved_frames, head_words, activations_of, frames_of, env_part, image}
use Rattle.spec_image.proofs.Samples.{looping, first, inside}
use Rattle.spec_image.proofs.Verdicts.{change, changed}
use Rattle.fit_image.specs.BlockTests.{value_ok, control_ok, operands_ok, frame_ok, activation_ok}
use Rattle.fit_image.specs.MemoryTest.{tag_ok, head_ok, activations_ok, frames_ok, entry_ok, env_ok, image_ok}

-- ---- frames

abbrev widest : Frame
widest = gather (fn 5) (int 4294967295 ∷ truth true ∷ nothing ∷ []) (9 ∷ 8 ∷ 7 ∷ 6 ∷ [])

frames_pass : map (λ f. frame_ok (frame_words f))
    (widest ∷ gather (op 0) (int 1 ∷ []) [] ∷ and 3 ∷ wait (node 2) ∷ Frame.store 1 ∷ branch (if_of 0) (node 1) ∷ Frame.leave ∷ check ∷ Frame.discard ∷ [])
    ≡ replicate 9 true
unfolding filled bit value_words values_words nodes_words ref_word block gathering frame_words value_ok operands_ok frame_ok
frames_pass = refl

-- a count of eight operands, of none where there are seven, of more than words have; kinds 0 and 10; a word beside a node, a bool of 2,
-- a type of 3, a word after the last slot; words that a kind has no use for
frames_fail : map (λ (b : List ℕ). frame_ok (take 20 (b ++ replicate 20 0)))
    ((1 ∷ 0 ∷ 8 ∷ 0 ∷ []) ∷ (1 ∷ 0 ∷ 4 ∷ 4 ∷ []) ∷ (2 ∷ 0 ∷ 0 ∷ 9 ∷ []) ∷ (2 ∷ 0 ∷ 4294967295 ∷ 1 ∷ []) ∷ (1 ∷ 0 ∷ 0 ∷ 0 ∷ 1 ∷ []) ∷ (0 ∷ []) ∷ (10 ∷ [])
    ∷ (1 ∷ 0 ∷ 0 ∷ 1 ∷ 5 ∷ 1 ∷ []) ∷ (1 ∷ 0 ∷ 1 ∷ 0 ∷ 2 ∷ 2 ∷ []) ∷ (1 ∷ 0 ∷ 1 ∷ 0 ∷ 3 ∷ 0 ∷ []) ∷ ((1 ∷ 0 ∷ 0 ∷ 0 ∷ []) ++ (replicate 15 0 ++ (1 ∷ [])))
    ∷ (3 ∷ 0 ∷ 1 ∷ []) ∷ (5 ∷ 0 ∷ 0 ∷ 1 ∷ []) ∷ (6 ∷ 0 ∷ 0 ∷ 1 ∷ []) ∷ (7 ∷ 1 ∷ []) ∷ (9 ∷ 0 ∷ 0 ∷ 0 ∷ 1 ∷ []) ∷ [])
    ≡ replicate 16 false
unfolding value_ok operands_ok frame_ok
frames_fail = refl

-- ---- activations: of 64 variables and of none; of 65, of a spare word, of a word after the last variable

activations_pass : (activation_ok (activation_words (activation 3 512 (replicate 64 (truth true)))) ≡ true) × (activation_ok (replicate 136 0) ≡ true)
unfolding filled bit value_words values_words activation_words value_ok activation_ok
activations_pass = (refl, refl)

activations_fail : map (λ (b : List ℕ). activation_ok (take 136 (b ++ replicate 136 0)))
    ((0 ∷ 0 ∷ 65 ∷ []) ∷ (0 ∷ 0 ∷ 0 ∷ 1 ∷ []) ∷ (0 ∷ 0 ∷ 0 ∷ 0 ∷ 0 ∷ 0 ∷ 0 ∷ 1 ∷ []) ∷ (0 ∷ 0 ∷ 1 ∷ 0 ∷ 0 ∷ 0 ∷ 0 ∷ 0 ∷ 0 ∷ 1 ∷ []) ∷ (0 ∷ 0 ∷ 0 ∷ 0 ∷ 0 ∷ 0 ∷ 0 ∷ 0 ∷ 1 ∷ []) ∷ [])
    ≡ replicate 5 false
unfolding value_ok activation_ok
activations_fail = refl

-- ---- whole memories

-- 14 activations
abbrev full : State
full = running (val (truth true)) empty_env 5 (replicate 64 (int 9)) (replicate 3 widest) (replicate 13 (saved 127 (int 7 ∷ []) (widest ∷ [])))

images_pass : map (λ s. image_ok (image s ++ (7 ∷ 8 ∷ [])))
    (main_call ∷ looping ∷ first ∷ inside ∷ full ∷ returned empty_env 3 ∷ State.value 3 ∷ exception arith ∷ exception abort
    ∷ calling empty_env (some 4294967295) ∷ calling (record { entry = 5 }) none ∷ calling (record { entry = 127 }) (some 0) ∷ returned (record { entry = 5 }) 3 ∷ [])
    ≡ replicate 13 true
unfolding filled bit value_words values_words nodes_words ref_word block gathering frame_words control_words activation_words env_words saved_activations saved_frames head_words activations_of frames_of env_part image value_ok control_ok operands_ok frame_ok activation_ok tag_ok head_ok activations_ok frames_ok entry_ok env_ok image_ok activation_of frames_held
images_pass = refl

-- another entry function in a state that is not final, and tag 9 instead of 1 and 3
changed_pass : map (λ c. image_ok (changed c))
    (change main_call 14721 5 ∷ change inside 14721 4294967295 ∷ change (returned empty_env 3) 14721 1 ∷ change (calling empty_env (some 3)) 14721 1
    ∷ change main_call 0 9 ∷ change (returned empty_env 3) 0 9 ∷ [])
    ≡ replicate 6 true
unfolding filled bit value_words values_words nodes_words ref_word block gathering frame_words control_words activation_words env_words saved_activations saved_frames head_words activations_of frames_of env_part image value_ok control_ok operands_ok frame_ok activation_ok tag_ok head_ok activations_ok frames_ok entry_ok env_ok image_ok activation_of frames_held
changed_pass = refl

-- so many callers beside main's empty one
abbrev callers : ℕ → State
callers n = running (val nothing) empty_env 0 [] [] (replicate n (saved 0 [] []))

-- 15, 32 and 33 activations; 513 frames; 65 variables; nine operands
images_fail : map (λ s. image_ok (image s))
    (callers 14 ∷ callers 31 ∷ callers 32 ∷ running (val nothing) empty_env 0 [] (replicate 513 Frame.leave) []
    ∷ running (val nothing) empty_env 0 (replicate 65 nothing) [] [] ∷ running (val nothing) empty_env 0 [] (gather (fn 0) [] (replicate 9 1) ∷ []) [] ∷ [])
    ≡ replicate 6 false
unfolding filled bit value_words values_words nodes_words ref_word block gathering frame_words control_words activation_words env_words saved_activations saved_frames head_words activations_of frames_of env_part image value_ok control_ok operands_ok frame_ok activation_ok tag_ok head_ok activations_ok frames_ok entry_ok env_ok image_ok activation_of frames_held
images_fail = refl

-- no tag, a tag that no state has, an int where there is none, a control where there is none, a word after the control, the last word, the
-- word after the last frame's room; no activation, 15, 32, 33; no form, a bool of 2, a word of nothing; a frame too few, too many, and
-- more than words have; a word above the last activation and above the last frame; the environment's first word, the word after the entry
-- function, an entry function in a final state, an activation and a control under tag 9, a tag between, a tag after it
changed_fail : map (λ c. image_ok (changed c))
    (change main_call 0 0 ∷ change main_call 0 7 ∷ change (exception arith) 1 1 ∷ change inside 1 1 ∷ change (State.value 3) 3 1 ∷ change main_call 2 1
    ∷ change inside 5 1 ∷ change inside 127 1 ∷ change inside 16383 1 ∷ change inside 14720 1 ∷ change inside 2 0 ∷ change full 2 15 ∷ change full 2 32 ∷ change full 2 33
    ∷ change inside 3 0 ∷ change inside 3 6 ∷ change inside 3 3 ∷ change inside 3 1 ∷ change inside 265 1 ∷ change inside 265 3 ∷ change inside 265 4294967295
    ∷ change inside 400 1 ∷ change inside 4560 9 ∷ change inside 14719 1
    ∷ change main_call 14720 1 ∷ change inside 14722 1 ∷ change (State.value 3) 14721 1 ∷ change (exception arith) 14721 5 ∷ change (exception abort) 14721 1
    ∷ change (calling empty_env (some 3)) 2 1 ∷ change (calling empty_env (some 3)) 3 2 ∷ change (calling empty_env (some 3)) 0 8 ∷ change (calling empty_env (some 3)) 0 10
    ∷ [])
    ≡ replicate 33 false
unfolding filled bit value_words values_words nodes_words ref_word block gathering frame_words control_words activation_words env_words saved_activations saved_frames head_words activations_of frames_of env_part image value_ok control_ok operands_ok frame_ok activation_ok tag_ok head_ok activations_ok frames_ok entry_ok env_ok image_ok activation_of frames_held
changed_fail = refl
