use mathlib.Core.Path.{sym, ◌∙◌}
use Rattle.panelrue_c.specs.HostAnswers.{run_number, run_words}
use Rattle.panelrue_c.proofs.panelrue_run.Goals as goal

pub pack-requires : goal.pack-requires
pack-requires c = rw c.in-Err.is at c.run.ensures.small

pub returns-in-Ok : goal.returns-in-Ok
unfolding run_number
returns-in-Ok c = let e = sym c.run.ensures.answer ∙ c.in-Ok.is in record { number = rw e; memory = c.run.ensures.memory; told = rw e c.tell_run.ensures }

pub returns-in-Err : goal.returns-in-Err
unfolding run_number run_words
returns-in-Err c = let e = sym c.run.ensures.answer ∙ c.in-Err.is in record { number = rw e c.pack.ensures; memory = c.run.ensures.memory; told = rw e }
