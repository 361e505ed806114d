use Rattle.std.proofs.Common.{◌≡◌, length, take}
use Rattle.desk_digest.specs.Padding.{padded}
use Rattle.desk_digest.specs.Sha256.{schedule}
use Rattle.desk_digest.proofs.schedule.Given as goal

abbrev pub invariant-loop-t : goal.invariant-loop-t
invariant-loop-t l = (length l.w ≡ 64) × (take l.t l.w ≡ schedule (padded l.bytes) l.at l.t)
