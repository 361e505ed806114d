use mathlib.Core.Path.{◌≡◌}
use Prim.Native.Nat.{◌+◌, ◌*◌, ◌-◌}
use lib.ListN.{length}
use Rattle.spec_log.specs.Changes.{restored}
use Rattle.spec_log.specs.Records.{changes_at}
use Rattle.log_records.proofs.last.restore_changes.Given as goal

abbrev pub invariant-loop-i : goal.invariant-loop-i
invariant-loop-i l = (length l.m ≡ length l.initial.m) × (restored (changes_at l.log (l.at + 6 * l.i) (l.n - l.i)) l.m ≡ restored (changes_at l.log l.at l.n) l.initial.m)
