use Rattle.std.proofs.Common.{rules}
use Rattle.desk_digest.proofs.Words.{turned_right}
use Rattle.desk_digest.proofs.rotations.Goals as goal

pub returns : goal.returns
returns c =
    rw (
      turned_right _ _ _ (search rules) (search rules) c.rotate_right.ensures,
      turned_right _ _ _ (search rules) (search rules) c.rotate_right-2.ensures,
      turned_right _ _ _ (search rules) (search rules) c.rotate_right-3.ensures,
    )
