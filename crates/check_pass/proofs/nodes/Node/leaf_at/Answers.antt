use Rattle.check_pass.proofs.Judging.{leaf_judged}
use Rattle.check_pass.proofs.nodes.Node.leaf_at.Goals as goal

pub returns : goal.returns
returns c = λ l. let g = c.guard.ensures l in rw (g.1, c.plain.ensures) (leaf_judged _ _ _ _ _ c.requires (c.fits.ensures g.0) c.empty-2.ensures)
