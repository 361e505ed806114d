use Rattle.varset.proofs.Laws.{none_is}
use Rattle.varset.proofs.VarSet.empty.Goals as goal

pub returns : goal.returns
returns c = none_is
