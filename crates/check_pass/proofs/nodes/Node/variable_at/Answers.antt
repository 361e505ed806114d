use Rattle.check_pass.proofs.Judging.{has_own, variable_judged}
use Rattle.check_pass.proofs.nodes.Node.variable_at.Goals as goal

pub returns : goal.returns
returns c = λ l. let g = c.guard.ensures l in rw (g.1, c.plain.ensures) (variable_judged _ _ _ _ _ _ _ c.requires c.variable_type-found.ensures c.strays.ensures g.0 c.fits.ensures (has_own _ c.variable_alone-own.ensures) c.empty.ensures)
