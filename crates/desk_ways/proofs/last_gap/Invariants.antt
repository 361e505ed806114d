use Rattle.std.proofs.Common.{◌≡◌}
use Rattle.desk_ways.specs.Ways.{last_gap}
use Rattle.desk_ways.proofs.last_gap.Given as goal

abbrev pub invariant-loop-k : goal.invariant-loop-k
invariant-loop-k l = l.way ≡ last_gap l.part.bytes.now l.part.n l.x l.i l.k
