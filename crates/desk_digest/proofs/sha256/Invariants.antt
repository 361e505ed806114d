use Rattle.std.proofs.Common.{◌≡◌}
use Rattle.desk_digest.specs.Padding.{padded}
use Rattle.desk_digest.specs.Sha256.{hash}
use Rattle.desk_digest.proofs.sha256.Given as goal

abbrev pub invariant-loop-i : goal.invariant-loop-i
invariant-loop-i l = l.s ≡ hash (padded l.bytes) l.i
