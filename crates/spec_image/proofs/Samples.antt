-- Images of states along the run of a sample file, by computation.
use mathlib.Core.Path.{◌≡◌, refl}
use mathlib.Core.Bool.{true, false}
use mathlib.Core.List.{List, [], ◌∷◌, ◌++◌, map}
use Prim.Native.Nat.{ℕ}
use lib.ListN.{length, take, drop, replicate}
use Rattle.varset.specs.Lowest.{lowest}
use Rattle.varset.specs.Sets.{has, none, with, without, both, either, less, below}
use Rattle.records.specs.Bytes.{u16_at, u32_at}
use Rattle.records.specs.Fields.{mark_at, functions, nodes, edition_of, result_of, params_of, vars_of, mask_of, count_of, kind_at, a_at, b_at, size_at}
use Rattle.records.specs.Parts.{sum_of, start_of, part_of}
use Rattle.records.specs.Search.{first_of, shift, or_else, first_in, unless}
use Rattle.records.specs.Children.{arities, arity_of, arity_at, walk, children}
use Rattle.spec_language.specs.Statements.{prior, last, shapes, shape_at, reads_from, reads_of, grow, statement_in, statement_at}
use Rattle.spec_language.specs.Scopes.{declares_at, decl_count, decl_of, under, uses_variable}
use Rattle.spec_language.specs.Types.{param_type, var_type, operator_type, types_of, type_at, condition, wants_of, want_at, suits, agree}
use Rattle.arith.specs.Int as ints
use Rattle.arith.specs.Operators as operators
use Rattle.spec_machine.specs.File.{backwards, kids, and_form, looks, look_at, ref_at, form_of, form_at, if_form, seq_form, see_at, unrolled, looped, stmt_at, types_from, fun_of, program_of}
use Rattle.spec_machine.specs.Values.{Value, nothing, int, truth, result}
use Rattle.spec_machine.specs.Program.{op, fn, Ref, node, seq_of}
use Rattle.spec_machine.specs.Machine.{arith, abort, Frame, gather, wait, branch, val, eval, exec, saved, empty_env, State, exception, main_call, returned, running}
use Rattle.spec_machine.specs.Run.{run_of}
use Rattle.spec_machine.proofs.SampleFiles.{sample}
use Rattle.spec_image.specs.Layout.{filled, bit, value_words, values_words, nodes_words, ref_word, block, gathering, frame_words, control_words, activation_words, env_words}
use Rattle.spec_image.specs.Image.{saved_activations, saved_frames, head_words, activations_of, frames_of, env_part, image}
use Rattle.spec_image.specs.Decode.{value_of, values_of, nodes_of, ref_of, operands, frames, frame_of, control_of, activation_of, frames_held, callers_of, running_of, activations_in, frames_in, env_of, states, state_of}

-- the state after k steps
abbrev ran : ℕ → State
ran k = (run_of (program_of sample) k main_call).state

abbrev waits : ℕ → Frame
waits n = wait (node n)

abbrev halfway : List Value
halfway = int 1 ∷ truth false ∷ []

-- the body of main; an if that a while equals; a call's first operand, and its second
abbrev body : State
body = running (exec (node 27)) empty_env 0 (nothing ∷ nothing ∷ []) [] []

abbrev pub looping : State
looping = running (eval 4) empty_env 0 (int 1 ∷ truth true ∷ []) (branch (seq_of 13) Ref.nop ∷ waits 22 ∷ []) []

abbrev pub first : State
first = running (eval 14) empty_env 0 halfway (gather (fn 1) [] (15 ∷ []) ∷ Frame.discard ∷ waits 21 ∷ []) []

abbrev second : State
second = running (val (truth false)) empty_env 0 halfway (gather (fn 1) (int 1 ∷ []) [] ∷ Frame.discard ∷ waits 21 ∷ []) []

-- inside the callee
abbrev pub inside : State
inside = running (val (int 5)) empty_env 1 (int 1 ∷ truth false ∷ nothing ∷ []) (Frame.store 2 ∷ waits 7 ∷ []) (saved 0 halfway (Frame.discard ∷ waits 21 ∷ []) ∷ [])

-- the sum of the result
abbrev summing : State
summing = running (val (int 2)) empty_env 0 halfway (gather (op 0) (int 1 ∷ []) [] ∷ Frame.leave ∷ []) []

abbrev along : List State
along = main_call ∷ body ∷ looping ∷ first ∷ second ∷ inside ∷ summing ∷ returned empty_env 3 ∷ State.value 3 ∷ []

on_the_run : map ran (0 ∷ 1 ∷ 14 ∷ 33 ∷ 36 ∷ 43 ∷ 53 ∷ 55 ∷ 56 ∷ []) ≡ along
unfolding lowest has none with without both either less below u16_at u32_at mark_at functions nodes edition_of result_of params_of vars_of mask_of count_of kind_at a_at b_at size_at sum_of start_of part_of first_of shift or_else first_in unless arities arity_of arity_at walk children prior last shapes shape_at reads_from reads_of grow statement_in statement_at declares_at decl_count decl_of under uses_variable param_type var_type operator_type types_of type_at condition wants_of want_at suits agree ints.int ints.wrap operators.add_of operators.sub_of operators.mul_of operators.quot_of operators.rem_of operators.shl_of operators.shr_of operators.and_of operators.or_of operators.xor_of operators.lt_of operators.le_of operators.gt_of operators.ge_of operators.eq_of operators.ne_of operators.no_quotient operators.divided operators.no_shift operators.shifted operators.results operators.applied backwards kids and_form looks look_at ref_at form_of form_at if_form seq_form see_at unrolled looped stmt_at types_from fun_of program_of result run_of
on_the_run = refl

abbrev finals : List State
finals = exception arith ∷ exception abort ∷ []

read_back : map (λ s. state_of (image s ++ (7 ∷ 8 ∷ []))) (along ++ finals) ≡ along ++ finals
unfolding filled bit value_words values_words nodes_words ref_word block gathering frame_words control_words activation_words env_words saved_activations saved_frames head_words activations_of frames_of env_part image value_of values_of nodes_of ref_of operands frames frame_of control_of activation_of frames_held callers_of running_of activations_in frames_in env_of states state_of
read_back = refl

sizes : map (λ s. length (image s)) (along ++ finals) ≡ replicate 11 16384
unfolding filled bit value_words values_words nodes_words ref_word block gathering frame_words control_words activation_words env_words saved_activations saved_frames head_words activations_of frames_of env_part image
sizes = refl

-- ---- words of images: the tag, an int, the number of activations, the form and the word of the control

heads : map (λ s. take 6 (image s)) (along ++ finals)
    ≡ (1 ∷ 0 ∷ 0 ∷ 0 ∷ 0 ∷ 0 ∷ []) ∷ (2 ∷ 0 ∷ 1 ∷ 5 ∷ 82 ∷ 0 ∷ []) ∷ (2 ∷ 0 ∷ 1 ∷ 4 ∷ 4 ∷ 0 ∷ []) ∷ (2 ∷ 0 ∷ 1 ∷ 4 ∷ 14 ∷ 0 ∷ [])
    ∷ (2 ∷ 0 ∷ 1 ∷ 3 ∷ 0 ∷ 0 ∷ []) ∷ (2 ∷ 0 ∷ 2 ∷ 2 ∷ 5 ∷ 0 ∷ []) ∷ (2 ∷ 0 ∷ 1 ∷ 2 ∷ 2 ∷ 0 ∷ []) ∷ (3 ∷ 3 ∷ 0 ∷ 0 ∷ 0 ∷ 0 ∷ [])
    ∷ (4 ∷ 3 ∷ 0 ∷ 0 ∷ 0 ∷ 0 ∷ []) ∷ (5 ∷ 0 ∷ 0 ∷ 0 ∷ 0 ∷ 0 ∷ []) ∷ (6 ∷ 0 ∷ 0 ∷ 0 ∷ 0 ∷ 0 ∷ []) ∷ []
unfolding filled bit value_words values_words nodes_words ref_word block gathering frame_words control_words activation_words env_words saved_activations saved_frames head_words activations_of frames_of env_part image
heads = refl

-- n words from a place on
abbrev part : State → ℕ → ℕ → List ℕ
part s at n = take n (drop at (image s))

-- main, which called, and over it the callee: function, frames, variables, and from the eighth word on their values
callee_over_main : (part inside 128 12 ≡ 0 ∷ 2 ∷ 2 ∷ 0 ∷ 0 ∷ 0 ∷ 0 ∷ 0 ∷ 1 ∷ 1 ∷ 2 ∷ 0 ∷ []) × (part inside 264 14 ≡ 1 ∷ 2 ∷ 3 ∷ 0 ∷ 0 ∷ 0 ∷ 0 ∷ 0 ∷ 1 ∷ 1 ∷ 2 ∷ 0 ∷ 0 ∷ 0 ∷ [])
unfolding filled bit value_words values_words nodes_words ref_word block gathering frame_words control_words activation_words env_words saved_activations saved_frames head_words activations_of frames_of env_part image
callee_over_main = (refl, refl)

-- the lowest frame first: main's two and the callee's two
frames_of_both : map (λ at. part inside at 3) (4480 ∷ 4500 ∷ 4520 ∷ 4540 ∷ 4560 ∷ [])
    ≡ (4 ∷ 64 ∷ 0 ∷ []) ∷ (9 ∷ 0 ∷ 0 ∷ []) ∷ (4 ∷ 22 ∷ 0 ∷ []) ∷ (5 ∷ 2 ∷ 0 ∷ []) ∷ (0 ∷ 0 ∷ 0 ∷ []) ∷ []
unfolding filled bit value_words values_words nodes_words ref_word block gathering frame_words control_words activation_words env_words saved_activations saved_frames head_words activations_of frames_of env_part image
frames_of_both = refl

-- a call, its operands at hand and those that wait; an operator; a branch
operands_in : (part first 4520 6 ≡ 2 ∷ 1 ∷ 0 ∷ 1 ∷ 15 ∷ 0 ∷ []) × (part second 4520 6 ≡ 2 ∷ 1 ∷ 1 ∷ 0 ∷ 1 ∷ 1 ∷ [])
    × (part summing 4500 6 ≡ 1 ∷ 0 ∷ 1 ∷ 0 ∷ 1 ∷ 1 ∷ []) × (part looping 4500 6 ≡ 6 ∷ 42 ∷ 0 ∷ 0 ∷ 0 ∷ 0 ∷ [])
unfolding filled bit value_words values_words nodes_words ref_word block gathering frame_words control_words activation_words env_words saved_activations saved_frames head_words activations_of frames_of env_part image
operands_in = (refl, refl, refl, refl)

-- seven operands and 64 variables are read back; of nine operands the last is lost
abbrev widest : Frame
widest = gather (fn 5) (int 4294967295 ∷ truth true ∷ int 0 ∷ []) (9 ∷ 8 ∷ 7 ∷ 6 ∷ [])

abbrev full : State
full = running (val nothing) empty_env 5 (replicate 64 (truth true)) (replicate 4 widest) (replicate 3 (saved 127 (replicate 64 (int 7)) (replicate 2 widest)))

full_back : state_of (image full) ≡ full
unfolding filled bit value_words values_words nodes_words ref_word block gathering frame_words control_words activation_words env_words saved_activations saved_frames head_words activations_of frames_of env_part image value_of values_of nodes_of ref_of operands frames frame_of control_of activation_of frames_held callers_of running_of activations_in frames_in env_of states state_of
full_back = refl

lost : frame_of (frame_words (gather (fn 0) [] (replicate 9 1))) ≡ gather (fn 0) [] (replicate 8 1 ++ (0 ∷ []))
unfolding filled bit value_words values_words nodes_words ref_word block gathering frame_words control_words activation_words env_words saved_activations saved_frames head_words activations_of frames_of env_part image value_of values_of nodes_of ref_of operands frames frame_of control_of activation_of frames_held callers_of running_of activations_in frames_in env_of states state_of
lost = refl
