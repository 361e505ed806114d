use Rattle.records.specs.Fields.{vars_of}
use borrow.Author.Rules.{rules}
use Rattle.records.proofs.vars_of.Goals as goal

pub returns : goal.returns
unfolding vars_of
returns c = search rules
