use native.Mathlib.Omega.{arith}
use Rattle.check_pass.proofs.Judging.{branches_judged}
use Rattle.check_pass.proofs.nodes.Node.branches_at.Goals as goal

pub effect_of-condition-requires : goal.effect_of-condition-requires
effect_of-condition-requires c = omega (arith, c.args.self.now.at.below, c.minus-c.ensures, c.minus-a.ensures, c.minus-b.ensures)

pub returns : goal.returns
returns c = λ l. let g = c.guard.ensures l in rw g.1 (branches_judged _ _ _ _ _ c.minus-b.ensures c.size_at-size.ensures.0 c.minus-a.ensures c.size_at-other.ensures.0 _ c.requires c.minus-c.ensures c.size_at.ensures.0 c.fits-fit.ensures c.effect_of-condition.ensures.judged c.effect_of-first.ensures.judged c.effect_of-second.ensures.judged g.0 c.in_branches-e.ensures)
