use Rattle.records.specs.Fields.{kind_at}
use borrow.Author.Rules.{rules}
use Rattle.records.proofs.nodes.kind_at.Goals as goal

pub returns : goal.returns
unfolding kind_at
returns c = search rules
