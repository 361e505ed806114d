use Rattle.arith.specs.Operators.{lt_of}
use Rattle.arith.proofs.Casts.{stored}
use Rattle.arith.proofs.lt.Goals as goal

pub returns : goal.returns
unfolding lt_of
returns c = rw (stored _ c.ranges.a.fits c.signed.ensures, stored _ c.ranges.b.fits c.signed-2.ensures)
