use Rattle.std.proofs.Common.{◌≡◌, ℕ, ◌+◌, ◌%◌, ◌^◌, ◌<◌, length, get_or}
use Rattle.desk_digest.proofs.sums.Given as goal

abbrev pub invariant-loop-i : goal.invariant-loop-i
invariant-loop-i l = (length l.sum ≡ 8) × ((k d : ℕ) → k < l.i → get_or l.sum k d ≡ (get_or l.x k 0 + get_or l.y k 0) % 2 ^ 32)
