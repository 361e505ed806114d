use Rattle.std.proofs.Common.{refl}
use Rattle.desk_digest.specs.Words.{Maj}
use Rattle.desk_digest.proofs.maj.Goals as goal

pub returns : goal.returns
unfolding Maj
returns c = refl
