use Rattle.texts.specs.Room.{Lent}
use Rattle.desk_lines.proofs.strings.put_valid.Given as goal

abbrev pub invariant-loop-b : goal.invariant-loop-b
invariant-loop-b l = Lent l.fn.out.bytes l.out.bytes
