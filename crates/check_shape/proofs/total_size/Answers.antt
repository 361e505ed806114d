use native.Mathlib.Omega.{arith}
use Rattle.records.proofs.Children.{nodes_step}
use Rattle.check_shape.proofs.Sizes.{sum_all, sum_more, sum_end}
use Rattle.check_shape.proofs.total_size.Goals as goal

pub loop-child-init : goal.loop-child-init
loop-child-init c = sum_all _ _ c.children_of-child-items.result.left (cc) (omega arith) cc

pub size_at-sum-requires : goal.size_at-sum-requires
size_at-sum-requires c = let came = nodes_step _ c.loop-child.invariant.are c.in-Some.ensures.steps in let below = came.below in omega arith

pub loop-child-preserved : goal.loop-child-preserved
loop-child-preserved c = sum_more _ _ _ _ _ _ _ c.loop-child.invariant c.in-Some.ensures.steps c.size_at-sum.ensures.0 c.size_at-sum.ensures.1

pub returns : goal.returns
returns c = sum_end _ _ _ _ c.loop-child.invariant c.in-None.ensures.steps.0
