use Rattle.std.proofs.Common.{rules, arith}
use Rattle.records.proofs.Children.{length-left, left_none, left_step}
use Rattle.records.proofs.nodes.ChildrenIterator.next.Goals as goal

pub returns-then-self-eq0-clause-steps : goal.returns-then-self-eq0-clause-steps
returns-then-self-eq0-clause-steps c = (left_none _ _ _ c.if-self-eq0.true, left_none _ _ _ c.if-self-eq0.true)

pub returns-clause-steps : goal.returns-clause-steps
returns-clause-steps c = rw c.prior-self.ensures (left_step _ _ _ c.if-self-eq0.false)

pub returns-clause-goes : goal.returns-clause-goes
returns-clause-goes c = record { on = λ f. (omega arith, search rules, simp length-left (omega arith)); keeps = omega arith; rests = λ f. search rules }
