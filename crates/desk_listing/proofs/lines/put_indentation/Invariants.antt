use Rattle.texts.specs.Room.{EndsInside, Lent}
use Rattle.desk_listing.proofs.lines.put_indentation.Given as goal

abbrev pub invariant-loop : goal.invariant-loop
invariant-loop l = Lent l.initial.out.bytes l.out.bytes × (EndsInside l.initial.out.bytes.now l.initial.out.used → EndsInside l.out.bytes.now l.out.used)
