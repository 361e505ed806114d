use Prim.Native.Nat.{◌≤◌, ◌*◌, ◌-◌}
use mathlib.Core.Path.{◌≡◌}
use lib.ListN.{drop}
use Rattle.fit_image.specs.BlockTests.{nodes_ok}
use Rattle.fit_image.proofs.nodes_ok.Given as goal

abbrev pub invariant-loop-i : goal.invariant-loop-i
invariant-loop-i l = (l.i ≤ l.n) × (nodes_ok (l.n - l.i) (drop (2 * l.i) l.s) ≡ nodes_ok l.n l.s)
