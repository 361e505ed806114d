use lib.ListN.{length}
use mathlib.Core.Path.{◌≡◌}
use Prim.Native.Nat.{◌*◌, ◌-◌, ◌≤◌}
use Rattle.records.specs.Parts.{start_of}
use Rattle.records.proofs.StartTables.{StartsTo}
use Rattle.records.proofs.starts.starts_of.Given as goal

abbrev pub invariant-loop-f : goal.invariant-loop-f
invariant-loop-f l = (l.f ≤ l.functions) × (l.start ≡ 12 * start_of l.file l.f) × (length l.starts ≡ 128) × StartsTo l.file l.starts l.f

abbrev pub decreases-loop-f : goal.decreases-loop-f
decreases-loop-f l = l.functions - l.f
