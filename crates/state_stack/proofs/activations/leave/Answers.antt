use mathlib.Core.Path.{refl, ◌∙◌}
use Prim.Native.Nat.{◌+◌, ◌*◌}
use native.Mathlib.Omega.{arith}
use Rattle.state_words.specs.Meaning.{frame_at, activation_at}
use Rattle.spec_image.proofs.Calls as calls
use Rattle.state_stack.proofs.activations.leave.Goals as goal

pub returns : goal.returns
unfolding frame_at activation_at
returns c f η J g θ L A R e a n j = let x = c.args in
    let p = c.requires in
    c.put_frame_count.ensures
    ∙ rw (c.drop_used.ensures, c.drop_frames.ensures, e)
    (calls.leave f η J R g θ L A x.n x.a (4480 + x.n * 20) (128 + x.a * 136 + 1 + 0) (128 + (x.a + 1) * 136) (x.j * 20) n a refl (omega arith) refl
    (omega arith) p.2 (omega arith))
