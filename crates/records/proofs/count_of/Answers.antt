use Rattle.records.specs.Fields.{count_of}
use borrow.Author.Rules.{rules}
use Rattle.records.proofs.count_of.Goals as goal

pub returns : goal.returns
unfolding count_of
returns c = search rules
