use Rattle.texts.specs.Room.{Lent}
use Rattle.desk_lines.proofs.strings.put_replaced.Given as goal

abbrev pub invariant-loop : goal.invariant-loop
invariant-loop l = Lent l.fn.out.bytes l.out.bytes
