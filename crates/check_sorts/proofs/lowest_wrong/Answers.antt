use native.Mathlib.Omega.{arith}
use Rattle.check_sorts.proofs.LowestMisplaced.{lower_all, lower_more, lower_end}
use Rattle.records.proofs.Children.{nodes_step}
use Rattle.check_sorts.proofs.lowest_wrong.Goals as goal

pub loop-k-init : goal.loop-k-init
loop-k-init c = lower_all _ _ _ _ (omega arith) (omega arith) cc

pub kind_at-requires : goal.kind_at-requires
kind_at-requires c = let came = nodes_step _ c.loop-k.invariant.are c.in-Some.ensures.steps in let below = came.below in omega arith

pub loop-k-preserved : goal.loop-k-preserved
loop-k-preserved c = lower_more _ _ _ _ _ _ _ _ c.loop-k.invariant c.in-Some.ensures.steps (rw (← c.kind_at-kind.ensures, ← c.kind_at.ensures, ← c.wrong_sort.ensures) c.lower-low.ensures)

pub returns : goal.returns
returns c = lower_end _ _ _ _ _ c.loop-k.invariant c.in-None.ensures.steps.0
