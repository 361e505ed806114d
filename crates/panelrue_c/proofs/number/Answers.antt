use mathlib.Core.Path.{◌∙◌}
use Rattle.check_file.specs.Answers.{says}
use Rattle.panelrue_c.specs.Packed.{packed}
use Rattle.panelrue_c.proofs.number.Goals as goal

pub pack-requires : goal.pack-requires
pack-requires c = rw c.in-Err.is at c.requires

pub returns-in-Ok : goal.returns-in-Ok
unfolding packed says
returns-in-Ok c = rw c.in-Ok.is

pub returns-in-Err : goal.returns-in-Err
unfolding packed says
returns-in-Err c = c.pack.ensures ∙ rw c.in-Err.is
