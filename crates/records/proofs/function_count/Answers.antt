use Rattle.records.specs.Fields.{functions}
use borrow.Author.Rules.{rules}
use Rattle.records.proofs.function_count.Goals as goal

pub returns : goal.returns
unfolding functions
returns c = search rules
