use Rattle.check_pass.proofs.Judging.{single_judged}
use Rattle.check_pass.proofs.nodes.Node.single_at.Goals as goal

pub returns : goal.returns
returns c = λ l. let g = c.guard.ensures l in rw g.1 (single_judged _ _ _ _ _ c.minus-b.ensures c.size_at.ensures.0 _ _ c.requires c.fits-fit.ensures c.effect_of-value.ensures.judged c.is_suited.ensures g.0 c.of_expression.ensures.1 c.of_expression.ensures.2 c.of_expression.ensures.0)
