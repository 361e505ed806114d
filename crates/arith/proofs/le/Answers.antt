use Rattle.arith.specs.Operators.{le_of}
use Rattle.arith.proofs.Casts.{stored}
use Rattle.arith.proofs.le.Goals as goal

pub returns : goal.returns
unfolding le_of
returns c = rw (stored _ c.ranges.a.fits c.signed.ensures, stored _ c.ranges.b.fits c.signed-2.ensures)
