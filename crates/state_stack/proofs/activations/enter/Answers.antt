use mathlib.Core.Path.{refl, ◌∙◌}
use native.Mathlib.Omega.{arith}
use Prim.Native.Nat.{◌+◌, ◌*◌, ◌/◌}
use Rattle.state_words.specs.Meaning.{value_is, frame_at, variable_at}
use Rattle.spec_image.proofs.Calls.{enter_moved}
use Rattle.state_stack.proofs.activations.enter.Goals as goal

pub returns : goal.returns
unfolding frame_at variable_at
returns c f η h vs l K A R e a n k y short d = let x = c.args in
    let p = c.requires in
    c.put_frame.ensures
    ∙ rw (c.put_variable.ensures, c.move_down.ensures, c.open.ensures, e)
    (enter_moved f η K A R x.a (128 + x.a * 136 + 1) (128 + (x.a + 1) * 136) a refl refl x.k x.g x.c k p.2 short
    x.n (4480 + x.n * 20) n refl p.1 h vs (value_is x.v) l ((x.y + 1) / 2) (128 + (x.a + 1) * 136 + (8 + x.y * 2)) d (omega arith) (omega arith) (omega arith) (omega arith))
