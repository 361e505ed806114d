use Rattle.std.proofs.Common.{◌<◌}
use Rattle.desk_listing.proofs.lines.child_of.Given as goal

abbrev pub invariant-loop : goal.invariant-loop
invariant-loop l = l.c < l.subject.nodes
