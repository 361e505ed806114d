use native.Mathlib.Omega.{arith}
use Rattle.fit_state.proofs.Rests.{few, some}
use Rattle.entry_memory.proofs.Current.{none_given, count_given}
use Rattle.entry_memory.proofs.has_variable.Goals as goal

pub returns-then-m-ne-TAG_RUNNING : goal.returns-then-m-ne-TAG_RUNNING
returns-then-m-ne-TAG_RUNNING c = none_given _ _ c.if-m-ne-TAG_RUNNING.true

pub overflow_cast-a : goal.overflow_cast-a
overflow_cast-a c = omega (arith, few _ c.requires.1)

pub overflow_sub-a : goal.overflow_sub-a
overflow_sub-a c = omega (arith, some _ c.requires.1 c.if-m-ne-TAG_RUNNING.false)

pub activation_word-requires : goal.activation_word-requires
activation_word-requires c = (c.requires.0, omega (arith, few _ c.requires.1, some _ c.requires.1 c.if-m-ne-TAG_RUNNING.false), omega arith)

pub returns : goal.returns
returns c = count_given _ c.requires.1 c.if-m-ne-TAG_RUNNING.false _ _ c.activation_word.ensures
