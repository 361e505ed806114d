use Prim.Native.Nat.{◌≤◌, ◌*◌, ◌-◌}
use mathlib.Core.Path.{◌≡◌}
use lib.ListN.{drop}
use Rattle.fit_image.specs.BlockTests.{values_ok}
use Rattle.fit_image.proofs.values_ok.Given as goal

abbrev pub invariant-loop-i : goal.invariant-loop-i
invariant-loop-i l = (l.i ≤ l.n) × (values_ok (l.n - l.i) (drop (2 * l.i) l.s) ≡ values_ok l.n l.s)
