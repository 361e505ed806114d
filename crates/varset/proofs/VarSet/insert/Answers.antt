use Rattle.varset.proofs.Laws.{with_is}
use borrow.Author.Rules.{rules}
use Rattle.varset.proofs.VarSet.insert.Goals as goal

pub returns : goal.returns
returns c = with_is 64 _ _ (search rules)
