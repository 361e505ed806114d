use Rattle.records.specs.Fields.{params_of}
use borrow.Author.Rules.{rules}
use Rattle.records.proofs.params_of.Goals as goal

pub returns : goal.returns
unfolding params_of
returns c = search rules
