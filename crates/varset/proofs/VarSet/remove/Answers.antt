use Rattle.std.proofs.Common.{arith, rules}
use Rattle.varset.proofs.Laws.{without_not}
use Rattle.varset.proofs.VarSet.remove.Goals as goal

pub returns : goal.returns
returns c = without_not 64 _ _ (omega arith) (search rules)
