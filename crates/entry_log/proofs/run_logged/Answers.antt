use mathlib.Core.Path.{sym, ap, ◌∙◌}
use Rattle.check_file.specs.Answers.{says}
use Rattle.check_file.proofs.Refusals.{err_is}
use Rattle.spec_answers.proofs.Questions.{memory_so}
use Rattle.run_loop.proofs.Holding.{words_held}
use Rattle.entry_log.proofs.Calls.{log_refused, log_accepted}
use Rattle.entry_log.proofs.run_logged.Goals as goal

pub returns-in_err-check_memory : goal.returns-in_err-check_memory
unfolding says
returns-in_err-check_memory c =
    let q = log_refused c.args.file.now c.args.m.now c.args.allowed c.args.log.now c.args.used _ (sym c.check_memory.ensures.answer ∙ ap says c.in_err-check_memory.was) in
    rw (err_is c.from_residual.result _ c.from_residual.ensures.1) (record { answer = q.0; small = rw c.in_err-check_memory.was at c.check_memory.ensures.small; memory = q.1; log = q.2 })

pub log_run-requires : goal.log_run-requires
unfolding says
log_run-requires c = let e = sym c.check_memory.ensures.answer ∙ ap says c.in_ok-check_memory.was in let q = memory_so _ _ e in (words_held c.args.file.now c.args.m.now q.0 q.2, q.1)

pub returns : goal.returns
unfolding says
returns c = let q = log_accepted c.args.file.now c.args.m.now c.args.allowed c.args.log.now c.args.used (sym c.check_memory.ensures.answer ∙ ap says c.in_ok-check_memory.was) _ _ _ c.log_run.ensures in record { answer = q.0; small = tt; memory = q.1; log = q.2 }
