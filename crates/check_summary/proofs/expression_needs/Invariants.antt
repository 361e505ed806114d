use Prim.Native.Nat.{◌+◌, ◌≤◌}
use Rattle.check_summary.specs.Tables.{Range}
use Rattle.check_summary.proofs.expression_needs.Given as goal

abbrev pub invariant-loop-low : goal.invariant-loop-low
invariant-loop-low l = (l.end ≤ l.low) × (l.low ≤ l.i) × Range l.part l.low (l.i + 1) l.set.0

abbrev pub decreases-loop-low : goal.decreases-loop-low
decreases-loop-low l = l.low
