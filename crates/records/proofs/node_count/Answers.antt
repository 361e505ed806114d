use Rattle.records.specs.Fields.{nodes}
use borrow.Author.Rules.{rules}
use Rattle.records.proofs.node_count.Goals as goal

pub returns : goal.returns
unfolding nodes
returns c = search rules
