use Rattle.varset.proofs.Laws.{all-is}
use Rattle.varset.proofs.VarSet.full.Goals as goal

pub returns : goal.returns
returns c = all-is 64
