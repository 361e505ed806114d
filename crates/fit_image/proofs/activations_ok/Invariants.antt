use Prim.Native.Nat.{◌≤◌}
use mathlib.Core.Path.{◌≡◌}
use Rattle.fit_image.specs.BlockTests.{activation_ok}
use Rattle.fit_image.specs.MemoryTest.{passing}
use Rattle.fit_image.proofs.activations_ok.Given as goal

abbrev pub invariant-loop-i : goal.invariant-loop-i
invariant-loop-i l = (l.i ≤ l.n) × (passing 136 activation_ok l.m 128 l.n ≡ passing 136 activation_ok l.m 128 l.i)
