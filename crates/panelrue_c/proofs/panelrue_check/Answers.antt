use mathlib.Core.Path.{sym, ◌∙◌, ap}
use Rattle.panelrue_c.specs.Packed.{packed}
use Rattle.check_file.proofs.Stages.{one_fails}
use Rattle.panelrue_c.proofs.panelrue_check.Goals as goal

pub returns-then-is_cut : goal.returns-then-is_cut
unfolding packed
returns-then-is_cut c = sym (ap packed (one_fails _ (c.is_cut.ensures c.if-is_cut.true)))

pub returns : goal.returns
returns c = c.number.ensures ∙ ap packed c.check.ensures.exact
