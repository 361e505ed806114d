-- Runs of worked files, from their bytes, by computation.
use mathlib.Core.Path.{◌≡◌, refl}
use mathlib.Core.Bool.{true}
use mathlib.Core.Option.{some}
use mathlib.Core.List.{List, [], ◌∷◌, ◌++◌, map}
use Prim.Native.Nat.{ℕ, ◌/◌, ◌%◌}
use lib.IntN.{ℤ, pos}
use lib.ListN.{replicate}
use Rattle.varset.specs.Lowest.{lowest}
use Rattle.varset.specs.Sets.{has, none, with, without, both, either, less, below}
use Rattle.records.specs.Bytes.{u16_at, u32_at}
use Rattle.records.specs.Fields.{mark_at, functions, nodes, edition_of, result_of, params_of, vars_of, mask_of, count_of, kind_at, a_at, b_at, size_at}
use Rattle.records.specs.Parts.{sum_of, start_of, part_of}
use Rattle.records.specs.Search.{first_of, shift, or_else, first_in, unless}
use Rattle.records.specs.Build.{header, function, wide, node, alone_in}
use Rattle.records.specs.Children.{arities, arity_of, arity_at, walk, children}
use Rattle.spec_language.specs.Statements.{prior, last, shapes, shape_at, reads_from, reads_of, grow, statement_in, statement_at}
use Rattle.spec_language.specs.Flow.{declares, leaves, missing, lacks, returns}
use Rattle.spec_language.specs.Scopes.{declares_at, decl_count, decl_of, under, uses_variable}
use Rattle.spec_language.specs.Types.{param_type, var_type, operator_type, types_of, type_at, condition, wants_of, want_at, suits, agree}
use Rattle.spec_language.proofs.Samples.{guarded, behind, scoped, turned}
use Rattle.arith.specs.Int as ints
use Rattle.arith.specs.Operators as operators
use Rattle.arith.proofs.Samples.{minus, least, greatest}
use Rattle.spec_machine.specs.File.{backwards, kids, and_form, looks, look_at, ref_at, form_of, form_at, if_form, seq_form, see_at, unrolled, looped, stmt_at, types_from, fun_of, program_of}
use Rattle.spec_machine.specs.Values.{nothing, truth, result}
use Rattle.spec_machine.specs.Machine.{arith, Frame, eval, saved, main_call, empty_env, State, running}
use Rattle.spec_machine.specs.Run.{Outcome, raised, Ran, run_of, look_up}
use Rattle.spec_machine.proofs.SampleFiles.{sample}

-- if(&&(false, ==(/(1, 0), 0)), return(1), return(2))
abbrev short : List ℕ
short = header 1 12 ++ function 1 0 0 0 12 ++ node 1 0 0 1 ++ node 0 0 1 1 ++ node 0 0 0 1 ++ node 3 3 0 3 ++ node 0 0 0 1 ++ node 3 14 0 5 ++ node 4 0 0 7 ++ node 0 0 1 1 ++ node 12 0 0 2 ++ node 0 0 2 1 ++ node 12 0 0 2 ++ node 10 0 0 12

-- the same with true
abbrev long : List ℕ
long = header 1 12 ++ function 1 0 0 0 12 ++ node 1 0 1 1 ++ node 0 0 1 1 ++ node 0 0 0 1 ++ node 3 3 0 3 ++ node 0 0 0 1 ++ node 3 14 0 5 ++ node 4 0 0 7 ++ node 0 0 1 1 ++ node 12 0 0 2 ++ node 0 0 2 1 ++ node 12 0 0 2 ++ node 10 0 0 12

-- decl(0, int, seq(assign(0, 0), seq(while(x0 < 2, seq(decl(1, bool, if(x0 == 0, assign(1, true), nop)), assign(0, x0 + 1))), return(x0))))
abbrev again : List ℕ
again = header 1 24 ++ function 1 0 2 0 24 ++ node 0 0 0 1 ++ node 8 0 0 2 ++ node 2 0 0 1 ++ node 0 0 2 1 ++ node 3 10 0 3 ++ node 2 0 0 1 ++ node 0 0 0 1 ++ node 3 14 0 3 ++ node 1 0 1 1 ++ node 8 0 1 2 ++ node 6 0 0 1 ++ node 10 0 0 7 ++ node 9 2 1 8 ++ node 2 0 0 1 ++ node 0 0 1 1 ++ node 3 0 0 3 ++ node 8 0 0 4 ++ node 7 0 0 13 ++ node 11 0 0 17 ++ node 2 0 0 1 ++ node 12 0 0 2 ++ node 7 0 0 20 ++ node 7 0 0 23 ++ node 9 1 0 24

-- decl(0, int, seq(assign(0, 1), return(f1(4) + x0))), f1 with parameter 0: seq(assign(0, x0 + 1), return(x0))
abbrev restored : List ℕ
restored = header 2 16 ++ function 1 0 1 0 9 ++ function 1 1 1 0 7 ++ node 0 0 1 1 ++ node 8 0 0 2 ++ node 0 0 4 1 ++ node 5 1 1 2 ++ node 2 0 0 1 ++ node 3 0 0 4 ++ node 12 0 0 5 ++ node 7 0 0 8 ++ node 9 1 0 9 ++ node 2 0 0 1 ++ node 0 0 1 1 ++ node 3 0 0 3 ++ node 8 0 0 4 ++ node 2 0 0 1 ++ node 12 0 0 2 ++ node 7 0 0 7

-- return(f1()), f1: return(f1()), two steps a call
abbrev endless : List ℕ
endless = header 2 4 ++ function 1 0 0 0 2 ++ function 1 0 0 0 2 ++ node 5 0 1 1 ++ node 12 0 0 2 ++ node 5 0 1 1 ++ node 12 0 0 2

-- its state with 14 callers, main's empty one among them, of which the next call would save the fifteenth
abbrev deepest : State
deepest = running (eval 0) empty_env 1 [] (Frame.leave ∷ []) (replicate 12 (saved 1 [] (Frame.leave ∷ [])) ++ (saved 0 [] (Frame.leave ∷ []) ∷ []))

-- a node that has the word of an int
abbrev literal : ℤ → List ℕ
literal z =
    let w = ints.wrap z in
    wide 0 0 (w % 256) (w / 256 % 256) (w / 65536 % 256) (w / 16777216) 1

-- return(x o y) in an edition
abbrev operates : ℕ → ℕ → ℤ → ℤ → List ℕ
operates edition o x y = alone_in edition 0 4 (literal x ++ literal y ++ node 3 o 0 3 ++ node 12 0 0 4)

-- a file, an allowance, and the outcome and steps of its run
pub data Row : Type 0 where
  row : List ℕ → ℕ → Outcome → ℕ → Row

-- what a run reports
pub data Report : Type 0 where
  report : Outcome → ℕ → Report

abbrev reported : Ran → Report
reported r = report r.outcome r.steps

abbrev expected : Row → Report
expected (row s a o k) = report o k

abbrev ran : Row → Report
ran (row s a o k) = reported (run_of (program_of s) a main_call)

-- the runs report what their rows say
abbrev Right : List Row → Type 0
Right rows = map ran rows ≡ map expected rows

-- in an edition a shift of x by y gives an int in the seventh step
abbrev given : ℕ → ℕ → ℤ → ℤ → ℤ → Row
given edition o x y z = row (operates edition o x y) 9 (Outcome.value (ints.wrap z)) 7

-- or raises arith in the fifth
abbrev refuses : ℕ → ℕ → ℤ → ℤ → Row
refuses edition o x y = row (operates edition o x y) 9 (raised arith) 5

-- the last step that an allowance has reaches the end, or the state whose next one passes a limit; there the run stands, whatever is allowed
record Runs : Type 0 where
  sides : Right (row short 8 (Outcome.value 2) 8 ∷ row long 8 (raised arith) 8 ∷ [])
  loops : Right (row sample 56 (Outcome.value 3) 56 ∷ row again 69 (Outcome.value 2) 69 ∷ [])
  calls : Right (row restored 26 (Outcome.value 6) 26 ∷ [])
  early :
      Right
      (row (guarded 1) 8 (Outcome.value 1) 8 ∷ row (guarded 0) 12 (Outcome.value 2) 12 ∷ row behind 6 (Outcome.value 1) 6 ∷ row scoped 8 (Outcome.value 1) 8 ∷ row turned 11 (Outcome.value 1) 11 ∷ [])
  limits : Right (row endless 27 Outcome.Spent 27 ∷ row endless 28 Outcome.Spent 28 ∷ row endless 29 Outcome.Full 28 ∷ [])
  shifts-0 :
      Right
      (given 0 5 (pos 1) least (pos 1) ∷ given 0 5 (pos 1) (minus 1) least ∷ given 0 5 (pos 1) (pos 0) (pos 1)
      ∷ given 0 5 (pos 1) (pos 31) least ∷ given 0 5 (pos 1) (pos 32) (pos 1) ∷ given 0 5 (pos 1) greatest least
      ∷ given 0 6 (minus 8) least (minus 8) ∷ given 0 6 (minus 8) (minus 1) (minus 1) ∷ given 0 6 (minus 8) (pos 0) (minus 8)
      ∷ given 0 6 (minus 8) (pos 31) (minus 1) ∷ given 0 6 (minus 8) (pos 32) (minus 8) ∷ given 0 6 (minus 8) greatest (minus 1) ∷ [])
  shifts-1 :
      Right
      (refuses 1 5 (pos 1) least ∷ refuses 1 5 (pos 1) (minus 1) ∷ given 1 5 (pos 1) (pos 0) (pos 1)
      ∷ given 1 5 (pos 1) (pos 31) least ∷ refuses 1 5 (pos 1) (pos 32) ∷ refuses 1 5 (pos 1) greatest
      ∷ refuses 1 6 (minus 8) least ∷ refuses 1 6 (minus 8) (minus 1) ∷ given 1 6 (minus 8) (pos 0) (minus 8)
      ∷ given 1 6 (minus 8) (pos 31) (minus 1) ∷ refuses 1 6 (minus 8) (pos 32) ∷ refuses 1 6 (minus 8) greatest ∷ [])
  stands : map (λ a. (run_of (program_of endless) a main_call).state) (28 ∷ 29 ∷ 10000 ∷ []) ≡ replicate 3 deepest

-- all runs
runs : Runs
unfolding lowest has none with without both either less below u16_at u32_at mark_at functions nodes edition_of result_of params_of vars_of mask_of count_of kind_at a_at b_at size_at sum_of start_of part_of first_of shift or_else first_in unless arities arity_of arity_at walk children prior last shapes shape_at reads_from reads_of grow statement_in statement_at declares leaves missing lacks returns declares_at decl_count decl_of under uses_variable param_type var_type operator_type types_of type_at condition wants_of want_at suits agree ints.int ints.wrap operators.add_of operators.sub_of operators.mul_of operators.quot_of operators.rem_of operators.shl_of operators.shr_of operators.and_of operators.or_of operators.xor_of operators.lt_of operators.le_of operators.gt_of operators.ge_of operators.eq_of operators.ne_of operators.no_quotient operators.divided operators.no_shift operators.shifted operators.results operators.applied backwards kids and_form looks look_at ref_at form_of form_at if_form seq_form see_at unrolled looped stmt_at types_from fun_of program_of result run_of
runs =
    record {
      sides = refl;
      loops = refl;
      calls = refl;
      early = refl;
      limits = refl;
      shifts-0 = refl;
      shifts-1 = refl;
      stands = refl;
    }

-- a variable keeps its value after its decl is over, until the decl runs again
declared_again : (look_up (run_of (program_of again) 42 main_call).state 1 ≡ some (truth true))
    × (look_up (run_of (program_of again) 43 main_call).state 1 ≡ some nothing)
unfolding lowest has none with without both either less below u16_at u32_at mark_at functions nodes edition_of result_of params_of vars_of mask_of count_of kind_at a_at b_at size_at sum_of start_of part_of first_of shift or_else first_in unless arities arity_of arity_at walk children prior last shapes shape_at reads_from reads_of grow statement_in statement_at declares leaves missing lacks returns declares_at decl_count decl_of under uses_variable param_type var_type operator_type types_of type_at condition wants_of want_at suits agree ints.int ints.wrap operators.add_of operators.sub_of operators.mul_of operators.quot_of operators.rem_of operators.shl_of operators.shr_of operators.and_of operators.or_of operators.xor_of operators.lt_of operators.le_of operators.gt_of operators.ge_of operators.eq_of operators.ne_of operators.no_quotient operators.divided operators.no_shift operators.shifted operators.results operators.applied backwards kids and_form looks look_at ref_at form_of form_at if_form seq_form see_at unrolled looped stmt_at types_from fun_of program_of result run_of
declared_again = (refl, refl)
