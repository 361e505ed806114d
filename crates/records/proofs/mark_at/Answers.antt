use Rattle.records.specs.Fields.{mark_at}
use borrow.Author.Rules.{rules}
use Rattle.records.proofs.mark_at.Goals as goal

pub returns : goal.returns
unfolding mark_at
returns c = search rules
