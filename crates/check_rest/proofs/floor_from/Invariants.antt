use Prim.Native.Nat.{◌≤◌}
use Rattle.check_rest.specs.Sound.{SoundBefore}
use Rattle.check_rest.proofs.floor_from.Given as goal

abbrev pub invariant-loop-i : goal.invariant-loop-i
invariant-loop-i l = SoundBefore l.file l.f l.part l.n l.i l.least × (8 ≤ l.least) × (l.least ≤ 12)
