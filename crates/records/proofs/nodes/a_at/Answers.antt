use Rattle.records.specs.Fields.{a_at}
use borrow.Author.Rules.{rules}
use Rattle.records.proofs.nodes.a_at.Goals as goal

pub returns : goal.returns
unfolding a_at
returns c = search rules
