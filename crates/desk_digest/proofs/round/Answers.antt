use Rattle.desk_digest.specs.Words.{◌⊞◌, Σ0, Σ1}
use Rattle.desk_digest.specs.Sha256.{T1, T2, turned, round}
use Rattle.desk_digest.proofs.round.Goals as goal

pub returns : goal.returns
unfolding round turned T1 T2 Σ0 Σ1 ◌⊞◌
returns c = rw (c.rotations.ensures, c.ch.ensures, c.rotations-2.ensures, c.maj.ensures)
