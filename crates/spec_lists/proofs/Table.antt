-- Document 01's table of runs, of the definitions that the entry points promise, by computation.
use mathlib.Core.Path.{◌≡◌, refl}
use mathlib.Core.List.{map}
use Rattle.varset.specs.Lowest.{lowest}
use Rattle.varset.specs.Sets as sets
use Rattle.varset.specs.Sets.{without, both, either, less, below}
use Rattle.records.specs.Bytes.{u16_at, u32_at}
use Rattle.records.specs.Fields.{mark_at, functions, nodes, edition_of, result_of, params_of, vars_of, mask_of, count_of, kind_at, a_at, b_at, size_at}
use Rattle.records.specs.Parts.{sum_of, start_of, part_of}
use Rattle.records.specs.Search.{first_of, shift, or_else, first_in, unless}
use Rattle.records.specs.Children.{arities, arity_of, arity_at, walk, children}
use Rattle.spec_language.specs.Statements.{prior, last, shapes, shape_at, reads_from, reads_of, grow, statement_in, statement_at}
use Rattle.spec_language.specs.Flow.{declares, leaves, missing, lacks, returns}
use Rattle.spec_language.specs.Scopes.{declares_at, decl_count, decl_of, under, uses_variable}
use Rattle.spec_language.specs.Types.{param_type, var_type, operator_type, types_of, type_at, condition, wants_of, want_at, suits, agree}
use Rattle.spec_language.specs.Sorts.{differ, is_expression, wants_expression, wrong_sort}
use Rattle.spec_language.specs.Records as records
use Rattle.spec_language.specs.Records.{length_ok, header_ok, records_ok, function_ok, sum_ok, main_ok}
use Rattle.spec_language.specs.Nodes as nodes
use Rattle.spec_language.specs.Nodes.{fields_ok, node_ok, size_ok, wrong_child, misplaced, undeclared, first_undeclared, outside, mistyped, answers}
use Rattle.spec_language.specs.Check.{origin_of, in_part, part_questions, questions, refuse, first_refusal, check_of}
use Rattle.arith.specs.Int as ints
use Rattle.arith.specs.Operators as operators
use Rattle.spec_machine.specs.Values.{result}
use Rattle.spec_machine.specs.Run.{run_of}
use Rattle.spec_machine.specs.File.{backwards, kids, and_form, looks, look_at, ref_at, form_of, form_at, if_form, seq_form, see_at, unrolled, looped, stmt_at, types_from, fun_of, program_of}
use Rattle.spec_image.specs.Layout.{filled, bit, value_words, values_words, nodes_words, ref_word, block, gathering, frame_words, control_words, activation_words, env_words}
use Rattle.spec_image.specs.Image.{saved_activations, saved_frames, head_words, activations_of, frames_of, env_part, image}
use Rattle.spec_image.specs.Decode.{value_of, values_of, nodes_of, ref_of, operands, frames, frame_of, control_of, activation_of, frames_held, callers_of, running_of, activations_in, frames_in, env_of, states, state_of}
use Rattle.spec_image.specs.Memory.{fit_words}
use Rattle.spec_answers.specs.Answers as answers
use Rattle.spec_answers.specs.Answers.{room_for, image_in, start_answer, memory_answer, written, start_memory, run_from, run_answer}
use Rattle.spec_lists.specs.Table.{rows, answer_of_row, expected}

-- every row
pub table : map answer_of_row rows ≡ map expected rows
unfolding lowest sets.has sets.none sets.with without both either less below u16_at u32_at mark_at functions nodes edition_of result_of params_of vars_of mask_of count_of kind_at a_at b_at size_at sum_of start_of part_of first_of shift or_else first_in unless arities arity_of arity_at walk children differ is_expression wants_expression wrong_sort prior last shapes shape_at reads_from reads_of grow statement_in statement_at declares leaves missing lacks returns declares_at decl_count decl_of under uses_variable param_type var_type operator_type types_of type_at condition wants_of want_at suits agree records.within length_ok header_ok records_ok function_ok sum_ok main_ok nodes.fields fields_ok node_ok nodes.total size_ok wrong_child nodes.some misplaced undeclared first_undeclared outside mistyped answers origin_of in_part part_questions questions refuse first_refusal check_of ints.int ints.wrap operators.add_of operators.sub_of operators.mul_of operators.quot_of operators.rem_of operators.shl_of operators.shr_of operators.and_of operators.or_of operators.xor_of operators.lt_of operators.le_of operators.gt_of operators.ge_of operators.eq_of operators.ne_of operators.no_quotient operators.divided operators.no_shift operators.shifted operators.results operators.applied backwards kids and_form looks look_at ref_at form_of form_at if_form seq_form see_at unrolled looped stmt_at types_from fun_of program_of result run_of filled bit value_words values_words nodes_words ref_word block gathering frame_words control_words activation_words env_words saved_activations saved_frames head_words activations_of frames_of env_part image value_of values_of nodes_of ref_of operands frames frame_of control_of activation_of frames_held callers_of running_of activations_in frames_in env_of states state_of fit_words room_for image_in start_answer memory_answer answers.by_verdict written start_memory run_from run_answer
table = refl
