-- What the code's values, references and controls stand for, and where words lie.
use Rattle.std.specs.Prelude.{ℕ, ◌+◌, ◌*◌}
use Rattle.spec_machine.specs.Values as values
use Rattle.spec_machine.specs.Program as program
use Rattle.spec_machine.specs.Machine as machine
use Rattle.state_words.specs.declared.Value.{Value}
use Rattle.state_words.specs.declared.Value.TheVariants.{Nothing, Int, Truth}
use Rattle.state_words.specs.declared.Ref.{Ref}
use Rattle.state_words.specs.declared.Ref.TheVariants.{Nop, Node, IfOf, SeqOf}
use Rattle.state_words.specs.declared.Control.{Control}
use Rattle.state_words.specs.declared.Control.TheVariants as control
use Rattle.spec_image.specs.Sizes.{activation_size, frame_size, activations_at, frames_at, slots_from, variables_from}
use Rattle.spec_image.specs.Decode.{ref_of}

-- a value
unfoldable pub value_is : Value → values.Value
value_is Nothing = values.nothing
value_is (Int n) = values.int n
value_is (Truth b) = values.truth b

-- a reference to a statement
unfoldable pub ref_is : Ref → program.Ref
ref_is Nop = program.Ref.nop
ref_is (Node n) = program.node n
ref_is (IfOf n) = program.if_of n
ref_is (SeqOf n) = program.seq_of n

-- a control
unfoldable pub control_is : Control → machine.Control
control_is control.Nothing = machine.val values.nothing
control_is (control.Int n) = machine.val (values.int n)
control_is (control.Truth b) = machine.val (values.truth b)
control_is (control.Eval n) = machine.eval n
control_is (control.Exec w) = machine.exec (ref_of w)

-- the place of the frame with n frames under it
unfoldable pub frame_at : ℕ → ℕ
frame_at n = frames_at + n * frame_size

-- the place of its slot k
unfoldable pub slot_at : ℕ → ℕ → ℕ
slot_at n k = frames_at + n * frame_size + (slots_from + k * 2)

-- the place of the activation with n activations under it
unfoldable pub activation_at : ℕ → ℕ
activation_at n = activations_at + n * activation_size

-- the place of its variable x
unfoldable pub variable_at : ℕ → ℕ → ℕ
variable_at n x = activations_at + n * activation_size + (variables_from + x * 2)
