use Rattle.check_file.proofs.Rounds.{ready, fewer_passed, more_passed, found_first}
use Rattle.check_file.specs.Answers.{says}
use mathlib.Core.Path.{refl, sym, ◌∙◌}
use native.Mathlib.Omega.{arith}
use Rattle.check_file.proofs.ask.Goals as goal

pub loop-question-init : goal.loop-question-init
loop-question-init c = (refl, c.requires.laid.2, c.requires.known.0)

pub first_in_parts-requires : goal.first_in_parts-requires
first_in_parts-requires c = record { laid = (c.requires.laid.0, c.requires.laid.1, c.loop-question.invariant.1); known = (ready _ _ c.requires.laid.0 c.loop-question.invariant.2, λ z. rw c.loop-question.invariant.0 (c.requires.known.1 (omega (arith, c.loop-question-test.true)))) }

pub shape_of-table-in-Some : goal.shape_of-table-in-Some
shape_of-table-in-Some c = c.first_in_parts.auto.table ∙ c.loop-question.invariant.0

pub returns-in-Some : goal.returns-in-Some
unfolding says
returns-in-Some c = record { exact = sym (found_first _ _ _ _ c.loop-question.invariant.1 (omega (arith, c.loop-question-test.true, c.requires.laid.3)) c.loop-question.invariant.2 (sym c.first_in_parts.ensures.exact ∙ c.in-Some.is)); small = c.first_in_parts.ensures.small _ _ c.in-Some.is }

pub loop-question-preserved : goal.loop-question-preserved
loop-question-preserved c = (c.first_in_parts.auto.table ∙ c.loop-question.invariant.0, omega (arith, c.loop-question.invariant.1), more_passed _ _ c.loop-question.invariant.2 (sym c.first_in_parts.ensures.exact ∙ c.in_default.is))

pub shape_of-table : goal.shape_of-table
shape_of-table c = c.loop-question.invariant.0

pub returns : goal.returns
returns c = record { exact = fewer_passed _ c.loop-question-test.false c.loop-question.invariant.2; small = tt }
