use Rattle.varset.proofs.Laws.{trailing_lowest}
use Rattle.varset.proofs.VarSet.lowest.Goals as goal

pub returns : goal.returns
returns c = trailing_lowest 64 _
