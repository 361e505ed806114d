use native.Mathlib.Omega.{arith}
use mathlib.Core.Path.{◌≡◌, ◌∙◌}
use Prim.Native.Nat.{◌+◌, ◌*◌}
use Rattle.words.proofs.Moves.{moved_more}
use Rattle.words.proofs.move_down.Goals as goal

pub loop-i-preserved : goal.loop-i-preserved
loop-i-preserved c = let a = c.args in
    let i = c.loop-i.i in
    let e : (i + 1) * 4 ≡ i * 4 + 4 = omega arith in
    c.move_four.ensures ∙ rw (c.loop-i.invariant, e) (moved_more a.m.now a.from a.to (i * 4) 4 (omega arith) (omega arith))
