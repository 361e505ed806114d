use Rattle.texts.specs.Room.{Lent}
use Rattle.desk_lines.proofs.strings.put_characters.Given as goal

abbrev pub invariant-loop-chunk : goal.invariant-loop-chunk
invariant-loop-chunk l = Lent l.fn.out.bytes l.out.bytes
