use mathlib.Core.Path.{◌≡◌, refl, ◌∙◌}
use native.Mathlib.Omega.{arith}
use Prim.Native.Nat.{◌+◌, ◌*◌}
use Rattle.state_words.specs.Meaning.{activation_at}
use Rattle.state_stack.proofs.activations.open.Goals as goal

pub returns : goal.returns
unfolding activation_at
returns c = let a = c.args.a in
    let e : 128 + a * 136 + 1 + 0 ≡ 128 + a * 136 + 1 = omega arith in
    c.put_activation.ensures ∙ rw (c.put_frame_count.ensures, e) refl
