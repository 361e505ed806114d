use mathlib.Core.Path.{◌∙◌}
use native.Mathlib.Omega.{arith}
use Rattle.fit_state.proofs.Rests.{few, some}
use Rattle.entry_memory.proofs.Current.{given_runs, given_few, value_given}
use Rattle.entry_memory.proofs.value_in.Goals as goal

pub overflow_cast-a : goal.overflow_cast-a
overflow_cast-a c = omega (arith, few _ c.requires.1)

pub overflow_sub-a : goal.overflow_sub-a
overflow_sub-a c = omega (arith, some _ c.requires.1 (given_runs _ _ c.requires.2))

pub variable-requires : goal.variable-requires
variable-requires c = (c.requires.0, omega (arith, few _ c.requires.1, some _ c.requires.1 (given_runs _ _ c.requires.2)), given_few _ c.requires.1 (given_runs _ _ c.requires.2) _ c.requires.2)

pub returns : goal.returns
returns c = c.variable.ensures ∙ value_given _ c.requires.1 (given_runs _ _ c.requires.2) _ c.requires.2
