use borrow.Author.Rules.{rules}
use mathlib.Core.Path.{sym, ap, ◌∙◌}
use Rattle.check_file.specs.Answers.{says}
use Rattle.check_file.proofs.Refusals.{err_is}
use Rattle.entry_start.proofs.Starts.{refused_early, no_room, started}
use Rattle.entry_start.proofs.start.Goals as goal

pub returns-in_err-check : goal.returns-in_err-check
unfolding says
returns-in_err-check c =
    let w = refused_early _ _ _ _ _ (sym c.check.ensures.exact ∙ ap says c.in_err-check.was) in
    rw (err_is c.from_residual.result _ c.from_residual.ensures.1) (record { answer = w.0; memory = w.1; small = rw c.in_err-check.was at c.check.ensures.small })

pub returns-then-m-lt-IMAGE_WORDS : goal.returns-then-m-lt-IMAGE_WORDS
unfolding says
returns-then-m-lt-IMAGE_WORDS c =
    let w = no_room _ _ (sym c.check.ensures.exact ∙ ap says c.in_ok-check.was) c.if-m-lt-IMAGE_WORDS.true in
    rw c.whole.ensures (record { answer = w.0; memory = w.1; small = (search rules, search rules) })

pub returns : goal.returns
unfolding says
returns c =
    let w = started _ _ _ (sym c.check.ensures.exact ∙ ap says c.in_ok-check.was) c.if-m-lt-IMAGE_WORDS.false c.write_start.ensures in
    record { answer = w.0; memory = w.1; small = tt }
