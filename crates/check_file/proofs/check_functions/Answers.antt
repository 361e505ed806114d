use borrow.Author.Tests.{not-true, not-false}
use Rattle.check_file.proofs.FoundPlaces.{placed_first}
use Rattle.check_file.specs.Answers.{says}
use mathlib.Core.Path.{sym, ◌∙◌}
use native.Mathlib.Omega.{arith}
use Rattle.check_file.proofs.Stages.{long, laid_out, sum_is, four_fails, five_fails, six_fails, six_passes}
use borrow.Author.Rules.{rules}
use Rattle.check_file.proofs.check_functions.Goals as goal

pub first_function-requires : goal.first_function-requires
first_function-requires c = omega (arith, (long c.args.file.now c.requires.1 c.requires.2).heads, c.function_count-functions.ensures.0)

pub overflow_add-result : goal.overflow_add-result
overflow_add-result c = omega (arith, (long c.args.file.now c.requires.1 c.requires.2).few, c.function_count-functions.ensures.0, (placed_first _ _ _ c.first_function.ensures _ _ c.in-Some.is).0)

pub returns-in-Some : goal.returns-in-Some
unfolding says
returns-in-Some c = record { exact = sym (four_fails _ _ _ ((rw c.function_count-functions.ensures.0 at (sym c.first_function.ensures)) ∙ c.in-Some.is)); small = (omega (arith, (long c.args.file.now c.requires.1 c.requires.2).few, c.function_count-functions.ensures.0, (placed_first _ _ _ c.first_function.ensures _ _ c.in-Some.is).0), (placed_first _ _ _ c.first_function.ensures _ _ c.in-Some.is).1) }

pub sum_ok-requires : goal.sum_ok-requires
sum_ok-requires c = (omega (arith, (long c.args.file.now c.requires.1 c.requires.2).heads, c.function_count-functions.ensures.0), omega (arith, (long c.args.file.now c.requires.1 c.requires.2).few, c.function_count-functions.ensures.0))

pub returns-then-not-sum_ok : goal.returns-then-not-sum_ok
unfolding says
returns-then-not-sum_ok c = rw c.whole.ensures (record { exact = sym (five_fails _ ((rw c.function_count-functions.ensures.0 at (sym c.first_function.ensures)) ∙ c.in_default.is) (sum_is _ _ c.function_count-functions.ensures.0 c.sum_ok.ensures (not-true _ c.if-not-sum_ok.true-raw))); small = (search rules, search rules) })

pub returns-then-not-main_ok : goal.returns-then-not-main_ok
unfolding says
returns-then-not-main_ok c = rw c.whole-then-not-main_ok.ensures (record { exact = sym (six_fails _ ((rw c.function_count-functions.ensures.0 at (sym c.first_function.ensures)) ∙ c.in_default.is) (sum_is _ _ c.function_count-functions.ensures.0 c.sum_ok.ensures (not-false _ c.if-not-sum_ok.false-raw)) (sym c.main_ok.ensures ∙ not-true _ c.if-not-main_ok.true-raw)); small = (search rules, search rules) })

pub check_parts-requires : goal.check_parts-requires
check_parts-requires c = (laid_out c.args.file.now c.requires.1 c.requires.2 ((rw c.function_count-functions.ensures.0 at (sym c.first_function.ensures)) ∙ c.in_default.is) (sum_is _ _ c.function_count-functions.ensures.0 c.sum_ok.ensures (not-false _ c.if-not-sum_ok.false-raw)), (long c.args.file.now c.requires.1 c.requires.2).whole)

pub returns : goal.returns
returns c = record { exact = c.check_parts.ensures.exact ∙ sym (six_passes _ ((rw c.function_count-functions.ensures.0 at (sym c.first_function.ensures)) ∙ c.in_default.is) (sum_is _ _ c.function_count-functions.ensures.0 c.sum_ok.ensures (not-false _ c.if-not-sum_ok.false-raw)) (sym c.main_ok.ensures ∙ not-false _ c.if-not-main_ok.false-raw)); small = c.check_parts.ensures.small }
