use Rattle.check_file.specs.Answers.{says}
use Rattle.check_file.proofs.Refusals.{err_is}
use mathlib.Core.Path.{sym, ap, ◌∙◌}
use borrow.Author.Tests.{not-true, not-false}
use Rattle.entry_memory.specs.Looks.{look_of}
use Rattle.entry_memory.proofs.Questions.{room_held, state_held, look_early, look_none, look_granted}
use borrow.Author.Rules.{rules}
use Rattle.entry_memory.proofs.look_up.Goals as goal

pub returns-in_err-check_memory : goal.returns-in_err-check_memory
unfolding says look_of
returns-in_err-check_memory c =
    rw (err_is c.from_residual.result _ c.from_residual.ensures.1)
    (record { answer = rw (look_early _ _ _ _ _ _ (sym c.check_memory.ensures.answer ∙ ap says c.in_err-check_memory.was)); small = rw c.in_err-check_memory.was at c.check_memory.ensures.small })

pub has_variable-requires : goal.has_variable-requires
unfolding says
has_variable-requires c = let e = sym c.check_memory.ensures.answer ∙ ap says c.in_ok-check_memory.was in (room_held _ _ e, state_held _ _ e)

pub returns-then-not-has_variable : goal.returns-then-not-has_variable
unfolding says look_of
returns-then-not-has_variable c = rw c.whole.ensures (record { answer = rw (look_none _ _ _ (sym c.check_memory.ensures.answer ∙ ap says c.in_ok-check_memory.was) (sym c.has_variable.ensures ∙ not-true _ c.if-not-has_variable.true-raw)); small = (search rules, search rules) })

pub value_in-requires : goal.value_in-requires
unfolding says
value_in-requires c = let e = sym c.check_memory.ensures.answer ∙ ap says c.in_ok-check_memory.was in (room_held _ _ e, state_held _ _ e, sym c.has_variable.ensures ∙ not-false _ c.if-not-has_variable.false-raw)

pub returns : goal.returns
unfolding says
returns c = record { answer = c.tell.ensures ∙ rw (c.value_in.ensures, look_granted _ _ _ (sym c.check_memory.ensures.answer ∙ ap says c.in_ok-check_memory.was) (sym c.has_variable.ensures ∙ not-false _ c.if-not-has_variable.false-raw)); small = tt }
