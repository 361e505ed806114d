use Rattle.texts.specs.Room.{Lent}
use Rattle.desk_listing.proofs.lines.put_parameters.Given as goal

abbrev pub invariant-loop-i : goal.invariant-loop-i
invariant-loop-i l = Lent l.initial.out.bytes l.out.bytes
