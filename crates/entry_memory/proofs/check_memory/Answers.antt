use Rattle.check_file.specs.Answers.{says}
use Rattle.check_file.proofs.Refusals.{err_is}
use mathlib.Core.Path.{sym, ap, ◌∙◌}
use borrow.Author.Tests.{not-true, not-false}
use Rattle.entry_memory.proofs.Questions.{memory_early, memory_short, memory_none, memory_held}
use borrow.Author.Rules.{rules}
use Rattle.entry_memory.proofs.check_memory.Goals as goal

pub returns-in_err-check : goal.returns-in_err-check
unfolding says
returns-in_err-check c =
    rw (err_is c.from_residual.result _ c.from_residual.ensures.1)
    (record { answer = memory_early _ _ _ _ _ (sym c.check.ensures.exact ∙ ap says c.in_err-check.was); small = rw c.in_err-check.was at c.check.ensures.small })

pub returns-then-m-lt-IMAGE_WORDS : goal.returns-then-m-lt-IMAGE_WORDS
unfolding says
returns-then-m-lt-IMAGE_WORDS c = rw c.whole.ensures (record { answer = memory_short _ _ (sym c.check.ensures.exact ∙ ap says c.in_ok-check.was) c.if-m-lt-IMAGE_WORDS.true; small = (search rules, search rules) })

pub holds_fit-requires : goal.holds_fit-requires
unfolding says
holds_fit-requires c = (sym c.check.ensures.exact ∙ ap says c.in_ok-check.was, c.if-m-lt-IMAGE_WORDS.false)

pub returns-then-not-holds_fit : goal.returns-then-not-holds_fit
unfolding says
returns-then-not-holds_fit c = rw c.whole-then-not-holds_fit.ensures (record { answer = memory_none _ _ (sym c.check.ensures.exact ∙ ap says c.in_ok-check.was) c.if-m-lt-IMAGE_WORDS.false (sym c.holds_fit.ensures ∙ not-true _ c.if-not-holds_fit.true-raw); small = (search rules, search rules) })

pub returns : goal.returns
unfolding says
returns c = record { answer = memory_held _ _ (sym c.check.ensures.exact ∙ ap says c.in_ok-check.was) c.if-m-lt-IMAGE_WORDS.false (sym c.holds_fit.ensures ∙ not-false _ c.if-not-holds_fit.false-raw); small = tt }
