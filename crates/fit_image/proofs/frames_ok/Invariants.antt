use Prim.Native.Nat.{◌≤◌}
use mathlib.Core.Path.{◌≡◌}
use Rattle.fit_image.specs.BlockTests.{frame_ok}
use Rattle.fit_image.specs.MemoryTest.{passing}
use Rattle.fit_image.proofs.frames_ok.Given as goal

abbrev pub invariant-loop-i : goal.invariant-loop-i
invariant-loop-i l = (l.i ≤ l.n) × (passing 20 frame_ok l.m 4480 l.n ≡ passing 20 frame_ok l.m 4480 l.i)
