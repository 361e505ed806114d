use Rattle.check_file.specs.Stages.{PassedBefore}
use mathlib.Core.Path.{◌≡◌}
use Prim.Native.Nat.{◌-◌, ◌≤◌}
use lib.ListN.{length}
use Rattle.check_file.proofs.ask.Given as goal

abbrev pub invariant-loop-question : goal.invariant-loop-question
invariant-loop-question l = (length l.table ≡ length l.initial.table) × (7 ≤ l.question) × PassedBefore l.file l.question
