use Rattle.std.proofs.Common.{◌≡◌, ◌*◌, length, take}
use Rattle.desk_digest.specs.Sha256.{bytes_of}
use Rattle.desk_digest.proofs.bytes_of.Given as goal

abbrev pub invariant-loop-i : goal.invariant-loop-i
invariant-loop-i l = (length l.out ≡ 32) × (take (4 * l.i) l.out ≡ bytes_of (take l.i l.s))
