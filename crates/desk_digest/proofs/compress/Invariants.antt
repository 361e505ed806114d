use Rattle.std.proofs.Common.{◌≡◌, length}
use Rattle.desk_digest.specs.Sha256.{rounds}
use Rattle.desk_digest.proofs.compress.Given as goal

abbrev pub invariant-loop-k : goal.invariant-loop-k
invariant-loop-k l = l.turned ≡ rounds l.s l.w (length l.yielded)
