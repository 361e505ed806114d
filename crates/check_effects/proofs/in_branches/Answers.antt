use mathlib.Core.Path.{◌∙◌}
use Rattle.check_effects.proofs.EffectParts.{branches_means}
use Rattle.check_effects.proofs.in_branches.Goals as goal

pub returns : goal.returns
returns c = λ e s u d o p q. branches_means _ o p q (c.union-2.ensures ∙ rw c.union.ensures) c.meet.ensures c.code_both.ensures
