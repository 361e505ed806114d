use Rattle.std.proofs.Common.{refl}
use Rattle.desk_digest.specs.Words.{Ch, complement}
use Rattle.desk_digest.proofs.ch.Goals as goal

pub returns : goal.returns
unfolding Ch complement
returns c = refl
