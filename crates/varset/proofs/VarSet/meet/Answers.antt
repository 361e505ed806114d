use Rattle.varset.proofs.Laws.{both_is}
use Rattle.varset.proofs.VarSet.meet.Goals as goal

pub returns : goal.returns
returns c = both_is _ _
