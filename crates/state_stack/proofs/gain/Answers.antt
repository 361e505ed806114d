use mathlib.Core.Path.{refl}
use Rattle.state_words.specs.Meaning.{slot_at}
use Rattle.spec_image.proofs.Operands.{next_operand}
use native.Mathlib.Omega.{arith}
use Rattle.state_stack.proofs.gain.Goals as goal

pub returns : goal.returns
unfolding slot_at
returns c f η h vs w ns K A R e few n room y z = rw (c.put_slot.ensures, e) (next_operand f η K A R _ _ few n refl h vs w ns _ _ _ _ room (omega arith) (omega arith) z)
