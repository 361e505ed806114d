-- Worked files: what the check's definition says of them, by computation.
use mathlib.Core.Path.{◌≡◌, refl}
use mathlib.Core.List.{List, [], ◌∷◌, ◌++◌, map}
use Prim.Native.Nat.{ℕ}
use Rattle.varset.specs.Lowest.{lowest}
use Rattle.varset.specs.Sets.{has, none, with, without, both, either, less, below}
use Rattle.records.specs.Bytes.{u16_at, u32_at}
use Rattle.records.specs.Fields.{mark_at, functions, nodes, edition_of, result_of, params_of, vars_of, mask_of, count_of, kind_at, a_at, b_at, size_at}
use Rattle.records.specs.Parts.{sum_of, start_of, part_of}
use Rattle.records.specs.Search.{first_of, shift, or_else, first_in, unless}
use Rattle.records.specs.Build.{header, function, node, alone}
use Rattle.records.specs.Children.{arities, arity_of, arity_at, walk, children}
use Rattle.spec_language.specs.Sorts.{differ, is_expression, wants_expression, wrong_sort}
use Rattle.spec_language.specs.Statements.{prior, last, shapes, shape_at, reads_from, reads_of, grow, statement_in, statement_at}
use Rattle.spec_language.specs.Flow.{declares, leaves, missing, lacks, returns}
use Rattle.spec_language.specs.Scopes.{declares_at, decl_count, decl_of, under, uses_variable}
use Rattle.spec_language.specs.Types.{param_type, var_type, operator_type, types_of, type_at, condition, wants_of, want_at, suits, agree}
use Rattle.spec_language.specs.Records.{within, length_ok, header_ok, records_ok, function_ok, sum_ok, main_ok}
use Rattle.spec_language.specs.Nodes.{fields, fields_ok, node_ok, total, size_ok, wrong_child, some, misplaced, undeclared, first_undeclared, outside, mistyped, answers}
use Rattle.spec_language.specs.Check.{Verdict, accepted, refused, origin_of, in_part, part_questions, questions, refuse, first_refusal, check_of}

-- a file, and what the check says of it
pub data Row : Type 0 where
  row : List ℕ → Verdict → Row

abbrev file_of : Row → List ℕ
file_of (row s v) = s

abbrev verdict_of : Row → Verdict
verdict_of (row s v) = v

-- return(0), its header with these last four bytes
abbrev ending : ℕ → ℕ → ℕ → ℕ → List ℕ
ending a b c d = 80 ∷ 82 ∷ 1 ∷ 0 ∷ 2 ∷ 0 ∷ 0 ∷ 0 ∷ a ∷ b ∷ c ∷ d ∷ (function 1 0 0 0 2 ++ (node 0 0 0 1 ++ node 12 0 0 2))

abbrev rows : List Row
rows =
    -- no byte
    row ([]) (refused 1 0 0)
    ∷
    -- a right header alone
    row (header 1 1) (refused 1 0 0)
    ∷
    -- edition 1
    row (ending 1 0 0 0) accepted
    ∷
    -- editions 2, 3 and 255
    row (ending 2 0 0 0) (refused 2 0 0)
    ∷ row (ending 3 0 0 0) (refused 2 0 0)
    ∷ row (ending 255 0 0 0) (refused 2 0 0)
    ∷
    -- an edition and a stray byte
    row (ending 0 1 0 0) (refused 2 0 0)
    ∷ row (ending 1 1 0 0) (refused 2 0 0)
    ∷ row (ending 0 0 128 0) (refused 2 0 0)
    ∷ row (ending 1 0 0 1) (refused 2 0 0)
    ∷
    -- a record too many
    row (alone 0 2 (node 0 0 0 1 ++ node 12 0 0 2 ++ node 6 0 0 1)) (refused 3 0 0)
    ∷
    -- a mask bit for no parameter
    row (header 1 2 ++ (function 1 0 0 2 2 ++ (node 0 0 0 1 ++ node 12 0 0 2))) (refused 4 1 0)
    ∷
    -- a part of no nodes
    row (header 2 2 ++ (function 1 0 0 0 2 ++ (function 1 0 0 0 0 ++ (node 0 0 0 1 ++ node 12 0 0 2)))) (refused 4 2 0)
    ∷
    -- counts that sum to N modulo 2^32 only
    row (header 2 4 ++ (70 ∷ 78 ∷ 1 ∷ 0 ∷ 0 ∷ 0 ∷ 0 ∷ 0 ∷ 255 ∷ 255 ∷ 255 ∷ 255 ∷ (function 1 0 0 0 5 ++ (node 0 0 0 1 ++ (node 12 0 0 2 ++ (node 0 0 0 1 ++ node 12 0 0 2)))))) (refused 5 0 0)
    ∷
    -- main gives a bool
    row (header 1 2 ++ (function 2 0 0 0 2 ++ (node 1 0 0 1 ++ node 12 0 0 2))) (refused 6 1 0)
    ∷
    -- an int with a set, and a size that is wrong before it
    row (alone 0 3 (node 6 0 0 7 ++ (node 0 1 0 1 ++ node 12 0 0 2))) (refused 7 3 0)
    ∷
    -- nop, 0, return 0 without a seq
    row (alone 0 3 (node 6 0 0 1 ++ (node 0 0 0 1 ++ node 12 0 0 2))) (refused 8 4 0)
    ∷
    -- an operator whose left operand would lie in the part before
    row (header 2 5 ++ (function 1 0 0 0 2 ++ (function 1 0 0 0 3 ++ (node 0 0 0 1 ++ (node 12 0 0 2 ++ (node 0 0 2 1 ++ (node 3 0 0 4 ++ node 12 0 0 5))))))) (refused 8 6 0)
    ∷
    -- a leaf of size 0
    row (alone 0 2 (node 0 0 0 0 ++ node 12 0 0 2)) (refused 8 2 0)
    ∷
    -- seq(1, seq(assert(nop), return(0)))
    row (alone 0 7 (node 0 0 1 1 ++ node 6 0 0 1 ++ node 13 0 0 2 ++ node 0 0 0 1 ++ node 12 0 0 2 ++ node 7 0 0 5 ++ node 7 0 0 7)) (refused 9 2 0)
    ∷
    -- a body that is an int
    row (alone 0 1 (node 0 0 3 1)) (refused 9 2 0)
    ∷
    -- three decls of one variable
    row (alone 1 5 (node 0 0 0 1 ++ node 12 0 0 2 ++ node 9 1 0 3 ++ node 9 1 0 4 ++ node 9 1 0 5)) (refused 10 1 0)
    ∷
    -- variables 0 and 2 declared, 1 not
    row (alone 3 4 (node 0 0 0 1 ++ node 12 0 0 2 ++ node 9 1 2 3 ++ node 9 1 0 4)) (refused 10 1 1)
    ∷
    -- a condition outside the decl in the body
    row (alone 1 9 (node 2 0 0 1 ++ node 0 0 0 1 ++ node 3 14 0 3 ++ node 6 0 0 1 ++ node 9 1 0 2 ++ node 11 0 0 6 ++ node 0 0 0 1 ++ node 12 0 0 2 ++ node 7 0 0 9)) (refused 11 2 0)
    ∷
    -- an assign outside the decl
    row (alone 1 9 (node 0 0 1 1 ++ node 8 0 0 2 ++ node 9 1 0 3 ++ node 0 0 2 1 ++ node 8 0 0 2 ++ node 2 0 0 1 ++ node 12 0 0 2 ++ node 7 0 0 5 ++ node 7 0 0 9)) (refused 11 6 0)
    ∷
    -- ==(true, true)
    row (alone 0 7 (node 1 0 1 1 ++ node 1 0 1 1 ++ node 3 14 0 3 ++ node 14 0 0 4 ++ node 0 0 0 1 ++ node 12 0 0 2 ++ node 7 0 0 7)) (refused 12 4 0)
    ∷
    -- return(nothing) in main
    row (alone 0 2 (node 15 0 0 1 ++ node 12 0 0 2)) (refused 12 3 0)
    ∷
    -- a type fault after an empty read
    row (alone 1 8 (node 2 0 0 1 ++ node 8 0 0 2 ++ node 2 0 0 1 ++ node 1 0 1 1 ++ node 3 0 0 3 ++ node 12 0 0 4 ++ node 7 0 0 7 ++ node 9 1 0 8)) (refused 12 6 0)
    ∷
    -- any expression as a statement
    row (alone 0 8 (node 15 0 0 1 ++ node 14 0 0 2 ++ node 1 0 1 1 ++ node 14 0 0 2 ++ node 0 0 0 1 ++ node 12 0 0 2 ++ node 7 0 0 5 ++ node 7 0 0 8)) accepted
    ∷
    -- a read behind &&
    row (alone 1 11 (node 1 0 0 1 ++ node 2 0 0 1 ++ node 0 0 1 1 ++ node 3 14 0 3 ++ node 4 0 0 5 ++ node 0 0 1 1 ++ node 12 0 0 2 ++ node 0 0 2 1 ++ node 12 0 0 2 ++ node 10 0 0 10 ++ node 9 1 0 11)) (refused 13 3 0)
    ∷
    -- assign(0, var 0)
    row (alone 1 6 (node 2 0 0 1 ++ node 8 0 0 2 ++ node 0 0 0 1 ++ node 12 0 0 2 ++ node 7 0 0 5 ++ node 9 1 0 6)) (refused 13 2 0)
    ∷
    -- a loop's assignment does not count for its condition
    row (alone 1 10 (node 2 0 0 1 ++ node 0 0 1 1 ++ node 3 10 0 3 ++ node 0 0 1 1 ++ node 8 0 0 2 ++ node 11 0 0 6 ++ node 0 0 0 1 ++ node 12 0 0 2 ++ node 7 0 0 9 ++ node 9 1 0 10)) (refused 13 2 0)
    ∷
    -- nor after it
    row (alone 1 8 (node 1 0 1 1 ++ node 0 0 1 1 ++ node 8 0 0 2 ++ node 11 0 0 4 ++ node 2 0 0 1 ++ node 12 0 0 2 ++ node 7 0 0 7 ++ node 9 1 0 8)) (refused 13 6 0)
    ∷
    -- both branches assign
    row (alone 1 10 (node 1 0 1 1 ++ node 0 0 1 1 ++ node 8 0 0 2 ++ node 0 0 2 1 ++ node 8 0 0 2 ++ node 10 0 0 6 ++ node 2 0 0 1 ++ node 12 0 0 2 ++ node 7 0 0 9 ++ node 9 1 0 10)) accepted
    ∷
    -- one branch assigns, and the variable is read after the if
    row (alone 1 9 (node 1 0 1 1 ++ node 0 0 1 1 ++ node 8 0 0 2 ++ node 6 0 0 1 ++ node 10 0 0 5 ++ node 2 0 0 1 ++ node 12 0 0 2 ++ node 7 0 0 8 ++ node 9 1 0 9)) (refused 13 7 0)
    ∷
    -- while(true, return(1))
    row (alone 0 4 (node 1 0 1 1 ++ node 0 0 1 1 ++ node 12 0 0 2 ++ node 11 0 0 4)) (refused 14 1 0)
    ∷
    -- seq(return(1), while(true, nop))
    row (alone 0 6 (node 0 0 1 1 ++ node 12 0 0 2 ++ node 1 0 1 1 ++ node 6 0 0 1 ++ node 11 0 0 3 ++ node 7 0 0 6)) accepted
    ∷
    -- a parameter is assigned, and passed
    row (header 2 10 ++ (function 1 0 0 0 3 ++ (function 1 1 1 0 7 ++ (node 0 0 4 1 ++ node 5 1 1 2 ++ node 12 0 0 3 ++ node 2 0 0 1 ++ node 0 0 1 1 ++ node 3 0 0 3 ++ node 8 0 0 4 ++ node 2 0 0 1 ++ node 12 0 0 2 ++ node 7 0 0 7)))) accepted
    ∷
    -- an argument of the other type
    row (header 2 10 ++ (function 1 0 0 0 3 ++ (function 1 1 1 0 7 ++ (node 1 0 1 1 ++ node 5 1 1 2 ++ node 12 0 0 3 ++ node 2 0 0 1 ++ node 0 0 1 1 ++ node 3 0 0 3 ++ node 8 0 0 4 ++ node 2 0 0 1 ++ node 12 0 0 2 ++ node 7 0 0 7)))) (refused 12 4 0)
    ∷
    -- a call of main
    row (alone 0 2 (node 5 0 0 1 ++ node 12 0 0 2)) accepted
    ∷ []

-- decl(0, int, seq(if(c, return(1), assign(0, 2)), return(x0)))
abbrev pub guarded : ℕ → List ℕ
guarded c = alone 1 10 (node 1 0 c 1 ++ node 0 0 1 1 ++ node 12 0 0 2 ++ node 0 0 2 1 ++ node 8 0 0 2 ++ node 10 0 0 6 ++ node 2 0 0 1 ++ node 12 0 0 2 ++ node 7 0 0 9 ++ node 9 1 0 10)

-- decl(0, int, seq(return(1), return(x0)))
abbrev pub behind : List ℕ
behind = alone 1 6 (node 0 0 1 1 ++ node 12 0 0 2 ++ node 2 0 0 1 ++ node 12 0 0 2 ++ node 7 0 0 5 ++ node 9 1 0 6)

-- decl(0, int, seq(decl(1, int, seq(return(1), assign(1, 2))), return(x0)))
abbrev pub scoped : List ℕ
scoped = alone 2 10 (node 0 0 1 1 ++ node 12 0 0 2 ++ node 0 0 2 1 ++ node 8 0 1 2 ++ node 7 0 0 5 ++ node 9 1 1 6 ++ node 2 0 0 1 ++ node 12 0 0 2 ++ node 7 0 0 9 ++ node 9 1 0 10)

-- decl(0, int, seq(while(true, seq(return(1), expr(x0))), return(0)))
abbrev pub turned : List ℕ
turned = alone 1 11 (node 1 0 1 1 ++ node 0 0 1 1 ++ node 12 0 0 2 ++ node 2 0 0 1 ++ node 14 0 0 2 ++ node 7 0 0 5 ++ node 11 0 0 7 ++ node 0 0 0 1 ++ node 12 0 0 2 ++ node 7 0 0 10 ++ node 9 1 0 11)

-- a return counts as giving every variable a value
abbrev early : List Row
early =
    row (guarded 1) accepted ∷ row (guarded 0) accepted ∷ row behind accepted ∷ row scoped accepted ∷ row turned accepted ∷
    -- a decl takes its variable away: seq(return(1), decl(0, int, return(x0)))
    row (alone 1 6 (node 0 0 1 1 ++ node 12 0 0 2 ++ node 2 0 0 1 ++ node 12 0 0 2 ++ node 9 1 0 3 ++ node 7 0 0 6)) (refused 13 4 0)
    ∷
    -- a loop leaves what it found: decl(0, int, seq(while(true, return(1)), return(x0)))
    row (alone 1 8 (node 1 0 1 1 ++ node 0 0 1 1 ++ node 12 0 0 2 ++ node 11 0 0 4 ++ node 2 0 0 1 ++ node 12 0 0 2 ++ node 7 0 0 7 ++ node 9 1 0 8)) (refused 13 6 0)
    ∷
    -- an if leaves what both branches leave: decl(0, int, seq(if(true, return(1), nop), return(x0)))
    row (alone 1 9 (node 1 0 1 1 ++ node 0 0 1 1 ++ node 12 0 0 2 ++ node 6 0 0 1 ++ node 10 0 0 5 ++ node 2 0 0 1 ++ node 12 0 0 2 ++ node 7 0 0 8 ++ node 9 1 0 9)) (refused 13 7 0)
    ∷
    -- the return's own expression is judged before: decl(0, int, seq(if(true, return(x0), assign(0, 2)), return(x0)))
    row (alone 1 10 (node 1 0 1 1 ++ node 2 0 0 1 ++ node 12 0 0 2 ++ node 0 0 2 1 ++ node 8 0 0 2 ++ node 10 0 0 6 ++ node 2 0 0 1 ++ node 12 0 0 2 ++ node 7 0 0 9 ++ node 9 1 0 10)) (refused 13 3 0)
    ∷
    -- only once in its branch: decl(0, int, if(true, return(1), return(x0)))
    row (alone 1 7 (node 1 0 1 1 ++ node 0 0 1 1 ++ node 12 0 0 2 ++ node 2 0 0 1 ++ node 12 0 0 2 ++ node 10 0 0 6 ++ node 9 1 0 7)) (refused 13 5 0)
    ∷ []

-- all rows
worked : map (λ r. check_of (file_of r)) (rows ++ early) ≡ map verdict_of (rows ++ early)
unfolding lowest has none with without both either less below u16_at u32_at mark_at functions nodes edition_of result_of params_of vars_of mask_of count_of kind_at a_at b_at size_at sum_of start_of part_of first_of shift or_else first_in unless arities arity_of arity_at walk children differ is_expression wants_expression wrong_sort prior last shapes shape_at reads_from reads_of grow statement_in statement_at declares leaves missing lacks returns declares_at decl_count decl_of under uses_variable param_type var_type operator_type types_of type_at condition wants_of want_at suits agree within length_ok header_ok records_ok function_ok sum_ok main_ok fields fields_ok node_ok total size_ok wrong_child some misplaced undeclared first_undeclared outside mistyped answers origin_of in_part part_questions questions refuse first_refusal check_of
worked = refl
