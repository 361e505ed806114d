use Rattle.check_pass.proofs.Judging.{sequence_judged}
use Rattle.check_pass.proofs.nodes.Node.sequence_at.Goals as goal

pub returns : goal.returns
returns c = λ l. let g = c.guard.ensures l in rw g.1 (sequence_judged _ _ _ _ _ c.minus-b.ensures c.size_at-size.ensures.0 c.minus-a.ensures c.size_at.ensures.0 _ c.requires c.fits-fit.ensures c.effect_of-first.ensures.judged c.effect_of-second.ensures.judged g.0 c.in_sequence-e.ensures (rw g.1 at l))
