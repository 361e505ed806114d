use native.Mathlib.Omega.{arith}
use Rattle.fit_state.proofs.tables.table_fits.Goals as goal

pub whole_as_slice-running_fits : goal.whole_as_slice-running_fits
whole_as_slice-running_fits g c = omega (arith, c.requires.room.1)
