use Rattle.desk_digest.specs.Words.{◌⊞◌, σ0, σ1}
use Rattle.desk_digest.specs.Sha256.{mixed}
use Rattle.desk_digest.proofs.mixed.Goals as goal

pub returns : goal.returns
unfolding mixed σ0 σ1 ◌⊞◌
returns c = rw (c.rotations_shift.ensures, c.rotations_shift-2.ensures)
