use Rattle.records.specs.Fields.{edition_of}
use borrow.Author.Rules.{rules}
use Rattle.records.proofs.edition_of.Goals as goal

pub returns : goal.returns
unfolding edition_of
returns c = search rules
