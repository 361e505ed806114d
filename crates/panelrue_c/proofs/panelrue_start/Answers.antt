use mathlib.Core.Path.{◌∙◌, ap}
use Rattle.panelrue_c.specs.Packed.{packed}
use Rattle.panelrue_c.proofs.panelrue_start.Goals as goal

pub number-requires : goal.number-requires
number-requires c = c.start.ensures.small

pub returns : goal.returns
returns c = record { answer = c.number.ensures ∙ ap packed c.start.ensures.answer; memory = c.start.ensures.memory }
