use Prim.Native.Nat.{◌*◌}
use mathlib.Core.Path.{refl, ◌∙◌}
use native.Mathlib.Omega.{arith}
use Rattle.state_words.specs.Meaning.{frame_at, activation_at}
use Rattle.spec_image.proofs.Calls as calls
use Rattle.state_stack.proofs.head.leave_main.Goals as goal

pub returns : goal.returns
unfolding frame_at activation_at
returns c z f η J R e all j = c.drop_activation.ensures
    ∙ rw (c.drop_frames.ensures, e) (calls.leave_main f η J R (c.args.j * 20) z 4480 128 (omega arith) all refl refl (omega arith))
