use mathlib.Core.Path.{refl}
use Rattle.varset.specs.Sets.{has}
use Rattle.varset.proofs.VarSet.contains.Goals as goal

pub returns : goal.returns
unfolding has
returns c = refl
