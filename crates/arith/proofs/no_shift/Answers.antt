use Rattle.arith.proofs.Shifts.{no_shift_lem}
use Rattle.arith.proofs.no_shift.Goals as goal

pub returns : goal.returns
returns c = rw (no_shift_lem _ c.ranges.count.fits)
