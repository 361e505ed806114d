use mathlib.Core.Path.{refl}
use Rattle.spec_machine.specs.Machine.{exception}
use Rattle.run_loop.proofs.Ending.{raised_rests, raised_emptied}
use Rattle.run_loop.proofs.fail.Goals as goal

pub returns : goal.returns
returns c = (refl, refl, λ x R e w. c.put_rest.ensures (exception x) R (raised_emptied x _ R w) (rw e (raised_rests x)))
