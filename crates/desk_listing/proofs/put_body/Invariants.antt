use Rattle.texts.specs.Room.{Lent}
use Rattle.desk_listing.proofs.put_body.Given as goal

abbrev pub invariant-loop : goal.invariant-loop
invariant-loop l = Lent l.fn.out.bytes l.out.bytes
