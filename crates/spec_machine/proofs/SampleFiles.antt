-- Sample files, from their bytes.
use mathlib.Core.Path.{◌≡◌, refl}
use mathlib.Core.List.{List, ◌++◌}
use Prim.Native.Nat.{ℕ}
use Rattle.varset.specs.Lowest.{lowest}
use Rattle.varset.specs.Sets.{has, none, with, without, both, either, less, below}
use Rattle.records.specs.Bytes.{u16_at, u32_at}
use Rattle.records.specs.Fields.{mark_at, functions, nodes, edition_of, result_of, params_of, vars_of, mask_of, count_of, kind_at, a_at, b_at, size_at}
use Rattle.records.specs.Parts.{sum_of, start_of, part_of}
use Rattle.records.specs.Search.{first_of, shift, or_else, first_in, unless}
use Rattle.records.specs.Build.{header, function, node}
use Rattle.records.specs.Children.{arities, arity_of, arity_at, walk, children}
use Rattle.spec_language.specs.Statements.{prior, last, shapes, shape_at, reads_from, reads_of, grow, statement_in, statement_at}
use Rattle.spec_language.specs.Flow.{declares, leaves, missing, lacks, returns}
use Rattle.spec_language.specs.Scopes.{declares_at, decl_count, decl_of, under, uses_variable}
use Rattle.spec_language.specs.Types.{param_type, var_type, operator_type, types_of, type_at, condition, wants_of, want_at, suits, agree}
use Rattle.spec_language.specs.Sorts.{differ, is_expression, wants_expression, wrong_sort}
use Rattle.spec_language.specs.Records.{within, length_ok, header_ok, records_ok, function_ok, sum_ok, main_ok}
use Rattle.spec_language.specs.Nodes.{fields, fields_ok, node_ok, total, size_ok, wrong_child, some, misplaced, undeclared, first_undeclared, outside, mistyped, answers}
use Rattle.spec_language.specs.Check.{accepted, origin_of, in_part, part_questions, questions, refuse, first_refusal, check_of}

-- decl#27(0, int, decl#26(1, bool, seq#25(assign#1(0, 1#0), seq#24(assign#3(1, true#2), seq#23(while#13(x1#4, seq#12(assign#6(1, false#5), if#11(x1#7, return#9(3#8), nop#10))),
-- seq#22(expr#17(f1#16(x0#14, x1#15)), return#21(x0#18 +#20 2#19)))))))
abbrev pub part0 : List ℕ
part0 = node 0 0 1 1 ++ node 8 0 0 2 ++ node 1 0 1 1 ++ node 8 0 1 2 ++ node 2 0 1 1 ++ node 1 0 0 1 ++ node 8 0 1 2 ++ node 2 0 1 1 ++ node 0 0 3 1 ++ node 12 0 0 2 ++ node 6 0 0 1 ++ node 10 0 0 5 ++ node 7 0 0 8 ++ node 11 0 0 10 ++ node 2 0 0 1 ++ node 2 0 1 1 ++ node 5 2 1 3 ++ node 14 0 0 4 ++ node 2 0 0 1 ++ node 0 0 2 1 ++ node 3 0 0 3 ++ node 12 0 0 4 ++ node 7 0 0 9 ++ node 7 0 0 20 ++ node 7 0 0 23 ++ node 7 0 0 26 ++ node 9 2 1 27 ++ node 9 1 0 28

-- parameters 0 int and 1 bool, result nothing: decl#9(2, int, seq#8(if#5(x1#0, assign#2(2, x0#1), assign#4(2, 5#3)), return#7(nothing#6)))
abbrev pub part1 : List ℕ
part1 = node 2 0 1 1 ++ node 2 0 0 1 ++ node 8 0 2 2 ++ node 0 0 5 1 ++ node 8 0 2 2 ++ node 10 0 0 6 ++ node 15 0 0 1 ++ node 12 0 0 2 ++ node 7 0 0 9 ++ node 9 1 2 10

-- parameter 0 int, result int: return#3(x0#0 ×#2 x0#1)
abbrev pub part2 : List ℕ
part2 = node 2 0 0 1 ++ node 2 0 0 1 ++ node 3 2 0 3 ++ node 12 0 0 4

-- parameter 0 int, result bool: return#3(x0#0 <#2 0#1)
abbrev pub part3 : List ℕ
part3 = node 2 0 0 1 ++ node 0 0 0 1 ++ node 3 10 0 3 ++ node 12 0 0 4

-- result int: seq#13(while#10(true#0, decl#9(0, int, seq#8(if#5(false#1, assign#3(0, 1#2), nop#4), return#7(9#6)))), return#12(4#11))
abbrev pub part4 : List ℕ
part4 = node 1 0 1 1 ++ node 1 0 0 1 ++ node 0 0 1 1 ++ node 8 0 0 2 ++ node 6 0 0 1 ++ node 10 0 0 5 ++ node 0 0 9 1 ++ node 12 0 0 2 ++ node 7 0 0 8 ++ node 9 1 0 9 ++ node 11 0 0 11 ++ node 0 0 4 1 ++ node 12 0 0 2 ++ node 7 0 0 14

-- result int: seq#12(while#9(true#0, decl#8(0, int, seq#7(assign#2(0, 1#1), assert#6(x0#3 ==#5 1#4)))), return#11(6#10))
abbrev pub part5 : List ℕ
part5 = node 1 0 1 1 ++ node 0 0 1 1 ++ node 8 0 0 2 ++ node 2 0 0 1 ++ node 0 0 1 1 ++ node 3 14 0 3 ++ node 13 0 0 4 ++ node 7 0 0 7 ++ node 9 1 0 8 ++ node 11 0 0 10 ++ node 0 0 6 1 ++ node 12 0 0 2 ++ node 7 0 0 13

abbrev pub sample : List ℕ
sample = header 6 73 ++ function 1 0 2 0 28 ++ function 0 2 3 2 10 ++ function 1 1 1 0 4 ++ function 2 1 1 0 4 ++ function 1 0 1 0 14 ++ function 1 0 1 0 13 ++ part0 ++ part1 ++ part2 ++ part3 ++ part4 ++ part5

-- decl#9(0, bool, seq#8(assign#1(0, true#0), if#7(x0#2, return#4(1#3), return#6(1#5))))
abbrev pub branches : List ℕ
branches = header 1 10 ++ function 1 0 1 0 10 ++ node 1 0 1 1 ++ node 8 0 0 2 ++ node 2 0 0 1 ++ node 0 0 1 1 ++ node 12 0 0 2 ++ node 0 0 1 1 ++ node 12 0 0 2 ++ node 10 0 0 6 ++ node 7 0 0 9 ++ node 9 2 0 10

-- seq#11(while#8(true#0, seq#7(assert#4(x0#1 ==#3 1#2), decl#6(0, int, nop#5))), return#10(0#9))
abbrev pub stale : List ℕ
stale = header 1 12 ++ function 1 0 1 0 12 ++ node 1 0 1 1 ++ node 2 0 0 1 ++ node 0 0 1 1 ++ node 3 14 0 3 ++ node 13 0 0 4 ++ node 6 0 0 1 ++ node 9 1 0 2 ++ node 7 0 0 7 ++ node 11 0 0 9 ++ node 0 0 0 1 ++ node 12 0 0 2 ++ node 7 0 0 12

-- the sample file is accepted
sample_accepted : check_of sample ≡ accepted
unfolding lowest has none with without both either less below u16_at u32_at mark_at functions nodes edition_of result_of params_of vars_of mask_of count_of kind_at a_at b_at size_at sum_of start_of part_of first_of shift or_else first_in unless arities arity_of arity_at walk children differ is_expression wants_expression wrong_sort prior last shapes shape_at reads_from reads_of grow statement_in statement_at declares leaves missing lacks returns declares_at decl_count decl_of under uses_variable param_type var_type operator_type types_of type_at condition wants_of want_at suits agree within length_ok header_ok records_ok function_ok sum_ok main_ok fields fields_ok node_ok total size_ok wrong_child some misplaced undeclared first_undeclared outside mistyped answers origin_of in_part part_questions questions refuse first_refusal check_of
sample_accepted = refl
