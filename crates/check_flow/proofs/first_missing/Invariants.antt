use mathlib.Core.Path.{◌≡◌}
use Prim.Native.Nat.{◌+◌, ◌-◌}
use Rattle.varset.specs.Sets.{has}
use Rattle.spec_language.specs.Statements.{reads_from, reads_of}
use Rattle.spec_language.specs.Flow.{missing}
use Rattle.check_flow.proofs.first_missing.Given as goal

abbrev pub invariant-loop-i : goal.invariant-loop-i
invariant-loop-i l = missing (reads_from l.part (l.e + 1 - l.i) l.i) (has l.set.0) ≡ missing (reads_of l.part l.e) (has l.set.0)
