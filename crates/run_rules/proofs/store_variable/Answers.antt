use Rattle.run_rules.proofs.Steps.{on}
use borrow.Author.Rules.{rules}
use Rattle.run_rules.proofs.store_variable.Goals as goal

pub returns : goal.returns
returns c s α f η K A R e t x w = on s _ _ _ _ R α f _ K A (c.set_variable.ensures f η K A (R α) e t.callers x w) t (search rules) (search rules)
