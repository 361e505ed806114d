-- A list of calls on a sample file, by computation.
use mathlib.Core.Path.{◌≡◌, refl}
use mathlib.Core.Bool.{Bool, true, ◌&&◌}
use mathlib.Core.List.{List, [], ◌∷◌, ◌++◌}
use Prim.Native.Nat.{ℕ, zero, suc, ◌<◌}
use native.Mathlib.Omega.{arith}
use lib.Dec.{ltb}
use lib.ListN.{get_or, take, drop, replicate}
use borrow.Author.Tests.{ltb-true}
use Rattle.records.proofs.Bools.{and_left, and_right}
use Rattle.varset.specs.Lowest.{lowest}
use Rattle.varset.specs.Sets as sets
use Rattle.varset.specs.Sets.{without, both, either, less, below}
use Rattle.records.specs.Bytes.{u16_at, u32_at}
use Rattle.records.specs.Fields.{mark_at, functions, nodes, edition_of, result_of, params_of, vars_of, mask_of, count_of, kind_at, a_at, b_at, size_at}
use Rattle.records.specs.Parts.{sum_of, start_of, part_of}
use Rattle.records.specs.Search.{first_of, shift, or_else, first_in, unless}
use Rattle.records.specs.Build.{alone_in, alone}
use Rattle.records.specs.Build as build
use Rattle.records.specs.Children.{arities, arity_of, arity_at, walk, children}
use Rattle.spec_language.specs.Statements.{prior, last, shapes, shape_at, reads_from, reads_of, grow, statement_in, statement_at}
use Rattle.spec_language.specs.Flow.{declares, leaves, missing, lacks, returns}
use Rattle.spec_language.specs.Scopes.{declares_at, decl_count, decl_of, under, uses_variable}
use Rattle.spec_language.specs.Types.{param_type, var_type, operator_type, types_of, type_at, condition, wants_of, want_at, suits, agree}
use Rattle.spec_language.specs.Sorts.{differ, is_expression, wants_expression, wrong_sort}
use Rattle.spec_language.specs.Records as records
use Rattle.spec_language.specs.Records.{length_ok, header_ok, records_ok, function_ok, sum_ok, main_ok}
use Rattle.spec_language.specs.Nodes as nodes
use Rattle.spec_language.specs.Nodes.{fields_ok, node_ok, size_ok, wrong_child, misplaced, undeclared, first_undeclared, outside, mistyped, answers}
use Rattle.spec_language.specs.Check.{accepted, refused, origin_of, in_part, part_questions, questions, refuse, first_refusal, check_of}
use Rattle.arith.specs.Int as ints
use Rattle.arith.specs.Operators as operators
use Rattle.spec_machine.specs.Values.{nothing, int, result}
use Rattle.spec_machine.specs.Program.{Ref, node}
use Rattle.spec_machine.specs.Machine as machine
use Rattle.spec_machine.specs.Machine.{Frame, wait, val, exec, empty_env, State, main_call, running}
use Rattle.spec_machine.specs.Run.{Outcome, raised, Spent, run_of}
use Rattle.spec_machine.specs.File.{backwards, kids, and_form, looks, look_at, ref_at, form_of, form_at, if_form, seq_form, see_at, unrolled, looped, stmt_at, types_from, fun_of, program_of}
use Rattle.spec_image.specs.Layout.{filled, bit, value_words, values_words, nodes_words, ref_word, block, gathering, frame_words, control_words, activation_words, env_words}
use Rattle.spec_image.specs.Image.{saved_activations, saved_frames, head_words, activations_of, frames_of, env_part, image}
use Rattle.spec_image.specs.Decode.{value_of, values_of, nodes_of, ref_of, operands, frames, frame_of, control_of, activation_of, frames_held, callers_of, running_of, activations_in, frames_in, env_of, states, state_of}
use Rattle.spec_image.specs.Sizes.{size}
use Rattle.spec_image.specs.Memory.{fit_words}
use Rattle.spec_answers.specs.Answers.{room_for, image_in, variable_in, start_answer, memory_answer, look_verdict, granted, denied, by_verdict, written, start_memory, run_from, run_answer, run_memory, look_answer}
use Rattle.spec_log.specs.Changes.{change}
use Rattle.spec_log.specs.Records.{bytes_of, change_bytes, word_bytes, record_of, changes_at, words_at, last_number, last_bytes, has_record, earlier}
use Rattle.spec_log.specs.Logged.{ends, LogFull, log_of}
use Rattle.spec_log.specs.Answers.{log_from, log_answer, log_memory, leads_to, words_before, back_to, record_in, back_verdict, back_answer, back_memory}
use Rattle.spec_log.proofs.Samples.{record_with}
use Rattle.spec_lists.specs.Forms.{Given, CallKind}
use Rattle.spec_lists.specs.Lists.{by_start, AnyCall, StoryOf}
use Rattle.spec_lists.proofs.Lists.{whole_lists}

-- decl#5(0, int, seq#4(assign#1(0, 5#0), return#3(x0#2)))
abbrev file : List ℕ
file = alone 1 6 (build.node 0 0 5 1 ++ build.node 8 0 0 2 ++ build.node 2 0 0 1 ++ build.node 12 0 0 2 ++ build.node 7 0 0 5 ++ build.node 9 1 0 6)

-- a memory of other content, one word longer than an image
abbrev dirty : List ℕ
dirty = replicate 16385 7

abbrev begun : List ℕ
begun = start_memory file dirty

-- a state in such a memory, and the states after three, four and five steps
abbrev holding : State → List ℕ
holding s = image s ++ drop size dirty

abbrev third : State
third = running (exec (node 1)) empty_env 0 (nothing ∷ []) (wait (node 3) ∷ []) []

abbrev fourth : State
fourth = running (val (int 5)) empty_env 0 (nothing ∷ []) (Frame.store 0 ∷ wait (node 3) ∷ []) []

abbrev fifth : State
fifth = running (exec Ref.nop) empty_env 0 (int 5 ∷ []) (wait (node 3) ∷ []) []

-- a log, the record of the fourth step, and the log with the records of five steps after its first three bytes
abbrev log : List ℕ
log = replicate 200 255

abbrev fourth_step : List ℕ
fourth_step = record_with (change 3 5 ∷ change 4 4 ∷ change 129 1 ∷ change 4500 0 ∷ [])

abbrev five_steps : List ℕ
five_steps =
    take 3 log
    ++ (record_with (change 0 1 ∷ change 2 0 ∷ change 3 0 ∷ change 4 0 ∷ change 130 0 ∷ [])
    ++ (record_with (change 4 16 ∷ [])
    ++ (record_with (change 4 13 ∷ change 129 0 ∷ change 4480 0 ∷ change 4481 0 ∷ [])
    ++ (fourth_step
    ++ (record_with (change 3 2 ∷ change 4 5 ∷ change 129 2 ∷ change 136 0 ∷ change 137 0 ∷ change 4500 5 ∷ []) ++ drop 143 log)))))

-- start, a run of five steps, look-ups, a run with no file, a run to the end, a look-up after it; memory checks and a second start;
-- five logged steps, two steps back, a look-up of what is held there, a step back by an empty log, a logged run with one byte too few
sample_list : (start_answer file dirty ≡ accepted)
    × (run_answer file begun 5 ≡ granted (record { outcome = Spent; steps = 5; state = fifth }))
    × (run_memory file begun 5 ≡ holding fifth)
    × (look_answer file (holding fifth) 0 ≡ granted (int 5))
    × (look_answer file (holding fifth) 1 ≡ denied 17 0 0)
    × (run_answer [] (holding fifth) 9 ≡ denied 1 0 0)
    × (run_answer file (holding fifth) 9 ≡ granted (record { outcome = Outcome.value 5; steps = 5; state = State.value 5 }))
    × (look_answer file (run_memory file (holding fifth) 9) 0 ≡ denied 17 0 0)
    × (memory_answer file dirty ≡ refused 16 0 0)
    × (memory_answer file (holding fifth) ≡ accepted)
    × (start_answer file (holding fifth) ≡ accepted)
    × (log_answer file begun 5 log 3 ≡ granted (record { stop = ends Spent; steps = 5; state = fifth; log = five_steps; used = 143 }))
    × (log_memory file begun 5 log 3 ≡ run_memory file begun 5)
    × (back_answer file (holding fifth) five_steps 143 ≡ granted 103)
    × (back_memory file (holding fifth) five_steps 143 ≡ holding fourth)
    × (back_answer file (holding fourth) five_steps 103 ≡ granted 75)
    × (back_memory file (holding fourth) five_steps 103 ≡ holding third)
    × (look_answer file (holding third) 0 ≡ granted nothing)
    × (back_answer file (holding third) [] 0 ≡ denied 18 0 0)
    × (log_answer file (holding third) 9 (replicate 67 0) 0 ≡ granted (record { stop = LogFull; steps = 1; state = fourth; log = fourth_step ++ replicate 39 0; used = 28 }))
    × (log_memory file (holding third) 9 (replicate 67 0) 0 ≡ holding fourth)
unfolding lowest sets.has sets.none sets.with without both either less below u16_at u32_at mark_at functions nodes edition_of result_of params_of vars_of mask_of count_of kind_at a_at b_at size_at sum_of start_of part_of first_of shift or_else first_in unless arities arity_of arity_at walk children differ is_expression wants_expression wrong_sort prior last shapes shape_at reads_from reads_of grow statement_in statement_at declares leaves missing lacks returns declares_at decl_count decl_of under uses_variable param_type var_type operator_type types_of type_at condition wants_of want_at suits agree records.within length_ok header_ok records_ok function_ok sum_ok main_ok nodes.fields fields_ok node_ok nodes.total size_ok wrong_child nodes.some misplaced undeclared first_undeclared outside mistyped answers origin_of in_part part_questions questions refuse first_refusal check_of ints.int ints.wrap operators.add_of operators.sub_of operators.mul_of operators.quot_of operators.rem_of operators.shl_of operators.shr_of operators.and_of operators.or_of operators.xor_of operators.lt_of operators.le_of operators.gt_of operators.ge_of operators.eq_of operators.ne_of operators.no_quotient operators.divided operators.no_shift operators.shifted operators.results operators.applied backwards kids and_form looks look_at ref_at form_of form_at if_form seq_form see_at unrolled looped stmt_at types_from fun_of program_of result run_of filled bit value_words values_words nodes_words ref_word block gathering frame_words control_words activation_words env_words saved_activations saved_frames head_words activations_of frames_of env_part image value_of values_of nodes_of ref_of operands frames frame_of control_of activation_of frames_held callers_of running_of activations_in frames_in env_of states state_of fit_words room_for image_in variable_in start_answer memory_answer look_verdict by_verdict written start_memory run_from run_answer run_memory look_answer bytes_of change_bytes word_bytes record_of changes_at words_at last_number last_bytes has_record earlier log_of log_from log_answer log_memory leads_to words_before back_to record_in back_verdict back_answer back_memory
sample_list = (refl, refl, refl, refl, refl, refl, refl, refl, refl, refl, refl, refl, refl, refl, refl, refl, refl, refl, refl, refl, refl)

-- decl#7(0, int, seq#6(assign#1(0, 32#0), return#5(1#2 <<#4 x0#3))) in an edition
abbrev shifts : ℕ → List ℕ
shifts edition =
    alone_in edition 1 8
    (build.node 0 0 32 1 ++ build.node 8 0 0 2 ++ build.node 0 0 1 1 ++ build.node 2 0 0 1 ++ build.node 3 5 0 3 ++ build.node 12 0 0 4 ++ build.node 7 0 0 7 ++ build.node 9 1 0 8)

-- the memory before its shift
abbrev ready : List ℕ
ready = run_memory (shifts 1) (start_memory (shifts 1) dirty) 10

-- in edition 1 the shift by 32 raises arith, and the memory stays as fit as any; edition 0's file gives a value from the same memory; there is no edition 2
edition_list : (start_answer (shifts 1) dirty ≡ accepted)
    × (look_answer (shifts 1) ready 0 ≡ granted (int 32))
    × (memory_answer (shifts 1) ready ≡ accepted)
    × (run_answer (shifts 0) ready 9 ≡ granted (record { outcome = Outcome.value 1; steps = 3; state = State.value 1 }))
    × (run_answer (shifts 2) ready 9 ≡ denied 2 0 0)
    × (run_answer (shifts 1) ready 9 ≡ granted (record { outcome = raised machine.arith; steps = 1; state = State.exception machine.arith }))
    × (memory_answer (shifts 1) (run_memory (shifts 1) ready 9) ≡ accepted)
    × (look_answer (shifts 1) (run_memory (shifts 1) ready 9) 0 ≡ denied 17 0 0)
unfolding lowest sets.has sets.none sets.with without both either less below u16_at u32_at mark_at functions nodes edition_of result_of params_of vars_of mask_of count_of kind_at a_at b_at size_at sum_of start_of part_of first_of shift or_else first_in unless arities arity_of arity_at walk children differ is_expression wants_expression wrong_sort prior last shapes shape_at reads_from reads_of grow statement_in statement_at declares leaves missing lacks returns declares_at decl_count decl_of under uses_variable param_type var_type operator_type types_of type_at condition wants_of want_at suits agree records.within length_ok header_ok records_ok function_ok sum_ok main_ok nodes.fields fields_ok node_ok nodes.total size_ok wrong_child nodes.some misplaced undeclared first_undeclared outside mistyped answers origin_of in_part part_questions questions refuse first_refusal check_of ints.int ints.wrap operators.add_of operators.sub_of operators.mul_of operators.quot_of operators.rem_of operators.shl_of operators.shr_of operators.and_of operators.or_of operators.xor_of operators.lt_of operators.le_of operators.gt_of operators.ge_of operators.eq_of operators.ne_of operators.no_quotient operators.divided operators.no_shift operators.shifted operators.results operators.applied backwards kids and_form looks look_at ref_at form_of form_at if_form seq_form see_at unrolled looped stmt_at types_from fun_of program_of result run_of filled bit value_words values_words nodes_words ref_word block gathering frame_words control_words activation_words env_words saved_activations saved_frames head_words activations_of frames_of env_part image value_of values_of nodes_of ref_of operands frames frame_of control_of activation_of frames_held callers_of running_of activations_in frames_in env_of states state_of fit_words room_for image_in variable_in start_answer memory_answer look_verdict by_verdict written start_memory run_from run_answer run_memory look_answer
edition_list = (refl, refl, refl, refl, refl, refl, refl, refl)

-- whether all are bytes
abbrev all_bytes : List ℕ → Bool
all_bytes [] = true
all_bytes (b ∷ l) = ltb b 256 && all_bytes l

small : (l : List ℕ) → all_bytes l ≡ true → (i : ℕ) → get_or l i 0 < 256
small [] h i = omega arith
small (b ∷ l) h zero = ltb-true b 256 (and_left (ltb b 256) _ h)
small (b ∷ l) h (suc i) = small l (and_right (ltb b 256) _ h) i

abbrev bytes : Given
bytes = record { bytes = file; small = small file refl }

abbrev shifting : Given
shifting = record { bytes = shifts 1; small = small (shifts 1) refl }

abbrev empty : Given
empty = record { bytes = []; small = small [] refl }

-- a run, a look-up, a refused run with no file, a memory check and a second start as one list, begun from a start: the theorem holds of it
abbrev calls : List AnyCall
calls =
    record { kind = CallKind.run; given = record { file = bytes; number = 5 } }
    ∷ record { kind = CallKind.look; given = record { file = bytes; number = 0 } }
    ∷ record { kind = CallKind.run; given = record { file = empty; number = 9 } }
    ∷ record { kind = CallKind.memory; given = bytes }
    ∷ record { kind = CallKind.start; given = bytes } ∷ []

sample_story : StoryOf begun calls bytes (record { state = main_call; history = [] })
unfolding unless length_ok questions refuse first_refusal memory_answer by_verdict run_answer
sample_story = whole_lists bytes (record { state = main_call; history = [] }) begun (by_start dirty sample_list.0) calls ((λ t. refl), ((λ t. refl), ((λ t. absurd t), ((λ t. refl), ((λ t. refl), tt)))))

-- five logged steps, a look-up, two steps back, a look-up, a step back by an empty log, a logged run that a full log stops and a memory check: the same theorem
abbrev back_calls : List AnyCall
back_calls =
    record { kind = CallKind.logged; given = record { file = bytes; number = 5; log = log; used = 3 } }
    ∷ record { kind = CallKind.look; given = record { file = bytes; number = 0 } }
    ∷ record { kind = CallKind.back; given = record { file = bytes; log = five_steps; used = 143 } }
    ∷ record { kind = CallKind.back; given = record { file = bytes; log = five_steps; used = 103 } }
    ∷ record { kind = CallKind.look; given = record { file = bytes; number = 0 } }
    ∷ record { kind = CallKind.back; given = record { file = bytes; log = []; used = 0 } }
    ∷ record { kind = CallKind.logged; given = record { file = bytes; number = 9; log = replicate 67 0; used = 0 } }
    ∷ record { kind = CallKind.memory; given = bytes } ∷ []

back_story : StoryOf begun back_calls bytes (record { state = main_call; history = [] })
back_story =
    whole_lists bytes (record { state = main_call; history = [] }) begun (by_start dirty sample_list.0) back_calls
    ((λ t. refl), ((λ t. refl), ((λ t. refl), ((λ t. refl), ((λ t. refl), ((λ t. refl), ((λ t. refl), ((λ t. refl), tt))))))))

-- a run to the shift, a look-up, a run with no file, a run that raises arith and a memory check, on a file of edition 1: the same theorem
abbrev edition_calls : List AnyCall
edition_calls =
    record { kind = CallKind.run; given = record { file = shifting; number = 10 } }
    ∷ record { kind = CallKind.look; given = record { file = shifting; number = 0 } }
    ∷ record { kind = CallKind.run; given = record { file = empty; number = 9 } }
    ∷ record { kind = CallKind.run; given = record { file = shifting; number = 10 } }
    ∷ record { kind = CallKind.memory; given = shifting } ∷ []

edition_story : StoryOf (start_memory (shifts 1) dirty) edition_calls shifting (record { state = main_call; history = [] })
unfolding unless length_ok questions refuse first_refusal memory_answer by_verdict run_answer
edition_story =
    whole_lists shifting (record { state = main_call; history = [] }) (start_memory (shifts 1) dirty) (by_start dirty edition_list.0) edition_calls
    ((λ t. refl), ((λ t. refl), ((λ t. absurd t), ((λ t. refl), ((λ t. refl), tt)))))
