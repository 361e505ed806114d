-- Memories that pass question 16 and memories that do not, by computation.
use mathlib.Core.Path.{◌≡◌, refl}
use mathlib.Core.Bool.{true, false}
use mathlib.Core.List.{List, [], ◌∷◌, ◌++◌, map}
use Prim.Native.Nat.{ℕ}
use lib.ListN.{take, set, replicate}
use Rattle.varset.specs.Sets.{none, with, without, both, either, less}
use Rattle.records.specs.Bytes.{u16_at, u32_at}
use Rattle.records.specs.Fields.{functions, result_of, params_of, vars_of, mask_of, count_of, kind_at, a_at, b_at, size_at}
use Rattle.records.specs.Parts.{sum_of, start_of, part_of}
use Rattle.records.specs.Search.{or_else}
use Rattle.spec_language.specs.Statements.{prior, last, shapes, shape_at, reads_from, reads_of, grow, statement_in, statement_at}
use Rattle.spec_language.specs.Flow.{declares, leaves, missing, lacks, returns}
use Rattle.spec_language.specs.Scopes.{declares_at, decl_of}
use Rattle.spec_language.specs.Types.{param_type, var_type}
use Rattle.spec_machine.specs.File.{looks, look_at, form_of, form_at, if_form, seq_form, see_at, unrolled, looped, stmt_at, types_from, fun_of, program_of}
use Rattle.spec_machine.specs.Program.{Program}
use Rattle.spec_machine.specs.Machine.{State, main_call, exception, arith}
use Rattle.spec_machine.proofs.SampleFiles.{sample}
use Rattle.spec_image.specs.Layout.{filled, bit, value_words, values_words, nodes_words, ref_word, block, gathering, frame_words, control_words, activation_words, env_words}
use Rattle.spec_image.specs.Image.{saved_activations, saved_frames, head_words, activations_of, frames_of, env_part, image}
use Rattle.spec_image.specs.Decode.{value_of, values_of, nodes_of, ref_of, operands, frames, frame_of, control_of, activation_of, frames_held, callers_of, running_of, activations_in, frames_in, env_of, states, state_of}
use Rattle.spec_image.specs.Memory.{fit_words}
use Rattle.spec_image.proofs.Samples.{looping, first, inside}

-- images of states on the run pass, whatever follows them
pass : map (λ s. fit_words (program_of sample) (image s ++ (7 ∷ 8 ∷ []))) (main_call ∷ looping ∷ first ∷ inside ∷ State.value 3 ∷ exception arith ∷ []) ≡ replicate 6 true
unfolding filled bit value_words values_words nodes_words ref_word block gathering frame_words control_words activation_words env_words saved_activations saved_frames head_words activations_of frames_of env_part image value_of values_of nodes_of ref_of operands frames frame_of control_of activation_of frames_held callers_of running_of activations_in frames_in env_of states state_of none with without both either less u16_at u32_at functions result_of params_of vars_of mask_of count_of kind_at a_at b_at size_at sum_of start_of part_of or_else prior last shapes shape_at reads_from reads_of grow statement_in statement_at declares leaves missing lacks returns declares_at decl_of param_type var_type looks look_at form_of form_at if_form seq_form see_at unrolled looped stmt_at types_from fun_of program_of fit_words
pass = refl

-- zeros pass for no program
blank_fails : (P : Program) → fit_words P (replicate 16384 0) ≡ false
unfolding filled bit value_words values_words nodes_words ref_word block gathering frame_words control_words activation_words env_words saved_activations saved_frames head_words activations_of frames_of env_part image value_of values_of nodes_of ref_of operands frames frame_of control_of activation_of frames_held callers_of running_of activations_in frames_in env_of states state_of fit_words
blank_fails P = refl

-- a memory that is one word short
short_fails : fit_words (program_of sample) (take 16383 (image main_call)) ≡ false
unfolding filled bit value_words values_words nodes_words ref_word block gathering frame_words control_words activation_words env_words saved_activations saved_frames head_words activations_of frames_of env_part image value_of values_of nodes_of ref_of operands frames frame_of control_of activation_of frames_held callers_of running_of activations_in frames_in env_of states state_of fit_words
short_fails = refl

-- an image with one word changed
pub data Change : Type 0 where
  change : State → ℕ → ℕ → Change

abbrev pub changed : Change → List ℕ
changed (change s at word) = set (image s) at word

abbrev changes : List Change
changes =
    -- a tag that no state has, an int where there is none, a word after the control, the last word
    change main_call 0 7 ∷ change (exception arith) 1 1 ∷ change inside 1 1 ∷ change inside 5 1 ∷ change inside 16383 1 ∷
    -- an entry function that is not main, main() with an argument, a word before the entry function, an entry function in a final state
    change main_call 14721 5 ∷ change inside 14721 1 ∷ change main_call 0 9 ∷ change inside 14720 1 ∷ change (State.value 3) 14721 1 ∷
    -- no activation, one too many, a form that no control has, a bool of 2
    change inside 2 0 ∷ change inside 2 3 ∷ change inside 3 6 ∷ change looping 139 2 ∷
    -- a spare word of an activation, the word of a variable that holds nothing, a word after the last variable
    change inside 267 1 ∷ change inside 277 1 ∷ change inside 278 1 ∷
    -- more and fewer frames and variables than there are
    change inside 265 1 ∷ change inside 265 3 ∷ change inside 266 2 ∷ change inside 266 4 ∷
    -- a kind that no frame has, a frame's spare word, a word above the last frame
    change inside 4540 10 ∷ change inside 4542 1 ∷ change inside 4560 9 ∷
    -- one operand too many, a word beside a node, a nop by its node
    change first 4523 2 ∷ change first 4525 1 ∷ change looping 4481 31 ∷
    []

fail : map (λ c. fit_words (program_of sample) (changed c)) changes ≡ replicate 27 false
unfolding filled bit value_words values_words nodes_words ref_word block gathering frame_words control_words activation_words env_words saved_activations saved_frames head_words activations_of frames_of env_part image value_of values_of nodes_of ref_of operands frames frame_of control_of activation_of frames_held callers_of running_of activations_in frames_in env_of states state_of none with without both either less u16_at u32_at functions result_of params_of vars_of mask_of count_of kind_at a_at b_at size_at sum_of start_of part_of or_else prior last shapes shape_at reads_from reads_of grow statement_in statement_at declares leaves missing lacks returns declares_at decl_of param_type var_type looks look_at form_of form_at if_form seq_form see_at unrolled looped stmt_at types_from fun_of program_of fit_words
fail = refl
