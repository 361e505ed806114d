use Rattle.log_records.proofs.Puts.{Laying}
use Rattle.log_records.proofs.put_words.Given as goal

abbrev pub invariant-loop-i : goal.invariant-loop-i
invariant-loop-i l = Laying l.initial.log l.at l.initial.a l.b l.log l.a l.i
