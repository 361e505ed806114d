use native.Mathlib.Omega.{arith}
use Rattle.records.specs.Bytes.{u16_at}
use Rattle.records.proofs.u16_at.Goals as goal

pub returns : goal.returns
unfolding u16_at
returns c = omega arith
