use Rattle.texts.specs.Room.{Lent}
use Rattle.desk_lines.proofs.counts.put_questions.Given as goal

abbrev pub invariant-loop-i : goal.invariant-loop-i
invariant-loop-i l = Lent l.fn.out.bytes l.out.bytes
