use Rattle.std.proofs.Common.{rules, arith}
use Rattle.desk_digest.proofs.Rounds.{summed}
use Rattle.desk_digest.proofs.sums.Goals as goal

pub returns : goal.returns
returns c = summed _ _ _ (search rules) (search rules) (search rules) (λ k d h. c.loop-i.invariant.1 k d (omega arith))
