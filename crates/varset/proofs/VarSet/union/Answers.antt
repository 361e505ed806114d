use Rattle.varset.proofs.Laws.{either_is}
use Rattle.varset.proofs.VarSet.union.Goals as goal

pub returns : goal.returns
returns c = either_is _ _
