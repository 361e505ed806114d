use mathlib.Core.Path.{sym, ◌∙◌}
use Rattle.panelrue_c.specs.HostLogs.{back_number, back_words}
use Rattle.panelrue_c.proofs.logs.panelrue_step_back.Goals as goal

pub pack-requires : goal.pack-requires
pack-requires c = rw c.in-Err.is at c.step_back.ensures.small

pub returns-in-Ok : goal.returns-in-Ok
unfolding back_number
returns-in-Ok c = let e = sym c.step_back.ensures.answer ∙ c.in-Ok.is in record { number = rw e; memory = c.step_back.ensures.memory; told = rw e c.tell_back.ensures }

pub returns-in-Err : goal.returns-in-Err
unfolding back_number back_words
returns-in-Err c = let e = sym c.step_back.ensures.answer ∙ c.in-Err.is in record { number = rw e c.pack.ensures; memory = c.step_back.ensures.memory; told = rw e }
