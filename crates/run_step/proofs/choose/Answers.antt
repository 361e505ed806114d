use Rattle.state_words.specs.Meaning.{value_is}
use Rattle.run_step.proofs.Sorts.{truth_only}
use Rattle.run_step.proofs.choose.Goals as goal

pub unreachable-requires : goal.unreachable-requires
unreachable-requires c = truth_only c.args.v c.requires.2 c.in_default.in_default-own.keys2

pub returns-then-truth : goal.returns-then-truth
unfolding value_is
returns-then-truth c s p q α f η fr K A R e t = rw (c.in-Truth.is, c.if-truth.true) (c.take_off.ensures s α f η fr K A R e t)

pub returns-else-truth : goal.returns-else-truth
unfolding value_is
returns-else-truth c s p q α f η fr K A R e t = rw (c.in-Truth.is, c.if-truth.false) (c.take_off-else-truth.ensures s α f η fr K A R e t)
