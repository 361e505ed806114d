use mathlib.Core.Path.{◌≡◌}
use Prim.Native.Nat.{◌*◌, ◌≤◌}
use Rattle.spec_image.specs.Decode.{held_in}
use Rattle.state_words.proofs.activations.frames_held.Given as goal

abbrev pub invariant-loop-a : goal.invariant-loop-a
invariant-loop-a l = (l.sum ≡ held_in l.m l.a) × (l.sum ≤ l.a * 4294967295)
