use mathlib.Core.Path.{sym, ◌∙◌}
use Rattle.panelrue_c.specs.HostLogs.{log_number, log_words}
use Rattle.panelrue_c.proofs.logs.panelrue_run_logged.Goals as goal

pub pack-requires : goal.pack-requires
pack-requires c = rw c.in-Err.is at c.run_logged.ensures.small

pub returns-in-Ok : goal.returns-in-Ok
unfolding log_number
returns-in-Ok c = let e = sym c.run_logged.ensures.answer ∙ c.in-Ok.is in record { number = rw e; memory = c.run_logged.ensures.memory; log = c.run_logged.ensures.log; told = rw e c.tell_log.ensures }

pub returns-in-Err : goal.returns-in-Err
unfolding log_number log_words
returns-in-Err c = let e = sym c.run_logged.ensures.answer ∙ c.in-Err.is in record { number = rw e c.pack.ensures; memory = c.run_logged.ensures.memory; log = c.run_logged.ensures.log; told = rw e }
