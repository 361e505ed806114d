use Prim.Native.Nat.{◌*◌, ◌≤◌}
use mathlib.Core.Path.{◌≡◌}
use Rattle.records.specs.Parts.{sum_of}
use Rattle.check_header.proofs.sum_ok.Given as goal

abbrev pub invariant-loop-f : goal.invariant-loop-f
invariant-loop-f l = (l.sum ≡ sum_of l.file l.f) × (l.sum ≤ 4294967295 * l.f)
