use Rattle.std.proofs.Common.{arith}
use Rattle.varset.proofs.Laws.{less_not}
use Rattle.varset.proofs.VarSet.minus.Goals as goal

pub returns : goal.returns
returns c = less_not 64 _ _ (omega arith) (omega arith)
