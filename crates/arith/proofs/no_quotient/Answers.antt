use Rattle.std.proofs.Common.{refl}
use Rattle.arith.specs.Int.{wrap}
use Rattle.arith.specs.Operators.{no_quotient}
use Rattle.arith.proofs.no_quotient.Goals as goal

pub returns : goal.returns
unfolding no_quotient wrap
returns c = refl
