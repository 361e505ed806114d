use mathlib.Core.Path.{refl}
use Rattle.run_rules.specs.StepsTo.{StepsTo}
use Rattle.run_rules.proofs.calling.leave_main.Goals as goal

pub returns : goal.returns
unfolding StepsTo
returns c s α f η J R e t = record { environment = α; is = refl; held = λ z w. c.leave_main.ensures z f η J (R α) e w t.frames }
