use Rattle.check_scopes.specs.Counts.{Noted}
use Rattle.check_scopes.proofs.decl_table.Given as goal

abbrev pub invariant-loop-i : goal.invariant-loop-i
invariant-loop-i l = Noted l.part l.i l.table
