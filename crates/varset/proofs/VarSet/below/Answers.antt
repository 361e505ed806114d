use Rattle.varset.proofs.Laws.{below_is, shl_some}
use borrow.Author.Rules.{rules}
use Rattle.varset.proofs.VarSet.below.Goals as goal

pub overflow_sub-result : goal.overflow_sub-result
overflow_sub-result c = shl_some 64 _ (search rules)

pub returns-then-n-eq64 : goal.returns-then-n-eq64
returns-then-n-eq64 c = rw c.if-n-eq64.true c.full.ensures

pub returns-else-n-eq64 : goal.returns-else-n-eq64
returns-else-n-eq64 c = below_is 64 _ (search rules)
