use mathlib.Core.Path.{sym, ap, ◌∙◌}
use Rattle.check_file.specs.Answers.{says}
use Rattle.check_file.proofs.Refusals.{err_is}
use Rattle.entry_run.proofs.Runs.{run_refused, run_held, run_room, run_accepted}
use Rattle.entry_run.proofs.run.Goals as goal

pub returns-in_err-check_memory : goal.returns-in_err-check_memory
unfolding says
returns-in_err-check_memory c =
    let q = run_refused _ _ _ _ (sym c.check_memory.ensures.answer ∙ ap says c.in_err-check_memory.was) in
    rw (err_is c.from_residual.result _ c.from_residual.ensures.1) (record { answer = q.0; small = rw c.in_err-check_memory.was at c.check_memory.ensures.small; memory = q.1 })

pub run-requires : goal.run-requires
unfolding says
run-requires c = let e = sym c.check_memory.ensures.answer ∙ ap says c.in_ok-check_memory.was in (run_held _ _ 0 e, run_room _ _ 0 e)

pub returns : goal.returns
unfolding says
returns c = let q = run_accepted _ _ _ (sym c.check_memory.ensures.answer ∙ ap says c.in_ok-check_memory.was) _ _ c.run.ensures in record { answer = q.0; small = tt; memory = q.1 }
