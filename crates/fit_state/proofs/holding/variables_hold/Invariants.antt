use mathlib.Core.Path.{◌≡◌}
use Rattle.varset.specs.Sets.{has}
use Rattle.spec_machine.specs.Program.{var_types}
use Rattle.spec_machine.specs.File.{program_of}
use Rattle.spec_machine.specs.Test.{all_hold_typed}
use Rattle.fit_state.specs.Meaning.{variables_in}
use Rattle.fit_state.proofs.Values.{holds_from, Below, type_in}
use Rattle.fit_state.proofs.holding.variables_hold.Given as goal

abbrev pub invariant-loop-x : goal.invariant-loop-x
invariant-loop-x l = record {
  typed : all_hold_typed (variables_in l.activation.memory.now l.activation.place l.activation.variables) (var_types ((program_of l.known.part.file.now).fun l.known.part.function)) ≡ holds_from (type_in l.known.part.file.now l.known.part.known.passed l.known.part.function l.known.part.known.known) l.activation.memory.now l.activation.place l.activation.variables l.x l.x;
  held : Below (has l.set.0) (variables_in l.activation.memory.now l.activation.place l.activation.variables) l.x;
}
