use mathlib.Core.Path.{ap, ◌∙◌}
use Rattle.panelrue_c.specs.Packed.{packed}
use Rattle.panelrue_c.proofs.panelrue_memory_check.Goals as goal

pub returns : goal.returns
returns c = c.number.ensures ∙ ap packed c.check_memory.ensures.answer
