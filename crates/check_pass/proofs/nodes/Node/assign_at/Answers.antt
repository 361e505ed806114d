use mathlib.Core.Path.{refl}
use Rattle.check_pass.proofs.Judging.{assign_judged}
use Rattle.check_pass.proofs.nodes.Node.assign_at.Goals as goal

pub returns : goal.returns
returns c = λ l. let g = c.guard.ensures l in rw (g.1, c.plain.ensures) (assign_judged _ _ _ _ _ c.minus-b.ensures c.size_at.ensures.0 _ _ _ c.requires c.variable_type-want.ensures c.strays.ensures c.fits-fit.ensures c.effect_of-value.ensures.judged c.is_suited-suited.ensures g.0 refl c.variable_alone-own.ensures refl)
