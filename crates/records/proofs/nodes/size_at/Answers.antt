use Rattle.records.specs.Fields.{size_at}
use borrow.Author.Rules.{rules}
use Rattle.records.proofs.nodes.size_at.Goals as goal

pub returns : goal.returns
unfolding size_at
returns c = search rules
