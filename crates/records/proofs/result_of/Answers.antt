use Rattle.records.specs.Fields.{result_of}
use borrow.Author.Rules.{rules}
use Rattle.records.proofs.result_of.Goals as goal

pub returns : goal.returns
unfolding result_of
returns c = search rules
