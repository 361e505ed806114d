use Rattle.run_step.proofs.Leaves.{pos}
use Rattle.state_words.specs.Meaning.{value_is}
use Rattle.run_step.proofs.Sorts.{int_only}
use Rattle.run_step.proofs.Leaves.{depart_main, depart_caller}
use Rattle.run_step.proofs.depart.Goals as goal

pub unreachable-requires : goal.unreachable-requires
unreachable-requires c = int_only c.args.v (c.requires.outermost c.if-h-eq0.true) c.in_default.in_default-own.keys2

pub returns-then-h-eq0 : goal.returns-then-h-eq0
unfolding value_is
returns-then-h-eq0 c α f η J A R e t = rw c.in-Int.is (depart_main _ _ _ _ _ R α f η J A _ e t c.if-h-eq0.true (λ i k. c.leave_main.ensures _ α f η J R i k))

pub leave-requires : goal.leave-requires
leave-requires c = let k = pos c.if-h-eq0.false in record { bounds = (c.requires.bounds.0, k, c.requires.bounds.1); caller = c.requires.called k }

pub returns : goal.returns
returns c α f η J A R e t = depart_caller _ _ _ _ _ R α f η J A _ e t c.if-h-eq0.false (λ g θ L B i k. c.leave.ensures α f η J g θ L B R i k)
