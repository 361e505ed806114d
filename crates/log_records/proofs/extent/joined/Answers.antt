use Rattle.log_records.proofs.Extents.{joined_alike}
use Rattle.log_records.proofs.extent.joined.Goals as goal

pub returns : goal.returns
returns c x y u v = rw (c.greater.ensures, c.greater-2.ensures) (joined_alike u v)
