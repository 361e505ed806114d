use mathlib.Core.Path.{◌≡◌}
use Prim.Native.Nat.{◌≤◌, ◌+◌}
use lib.ListN.{length, drop}
use Rattle.spec_log.specs.Changes.{changes}
use Rattle.log_records.proofs.differing.Given as goal

abbrev pub invariant-loop-i : goal.invariant-loop-i
invariant-loop-i l = (l.k ≤ l.i) × (l.k + length (changes l.i (drop l.i l.a) (drop l.i l.b)) ≡ length (changes 0 l.a l.b))
