use Rattle.log_records.proofs.Puts.{Putting}
use Rattle.log_records.proofs.put_each.Given as goal

abbrev pub invariant-loop-i : goal.invariant-loop-i
invariant-loop-i l = Putting l.initial.log l.at l.origin l.initial.a l.b l.log l.a l.next l.i
