use Rattle.records.specs.Fields.{b_at}
use borrow.Author.Rules.{rules}
use Rattle.records.proofs.nodes.b_at.Goals as goal

pub returns : goal.returns
unfolding b_at
returns c = search rules
