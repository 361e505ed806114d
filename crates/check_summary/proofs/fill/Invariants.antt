use Rattle.check_summary.specs.Tables.{RowsFilled}
use Rattle.check_summary.proofs.fill.Given as goal

abbrev pub invariant-loop-i : goal.invariant-loop-i
invariant-loop-i l = RowsFilled l.part l.table l.i
