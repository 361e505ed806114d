use Rattle.check_scopes.specs.Counts.{Counts}
use Rattle.check_scopes.proofs.declared_in.Given as goal

abbrev pub invariant-loop-i : goal.invariant-loop-i
invariant-loop-i l = Counts l.part l.i l.d
