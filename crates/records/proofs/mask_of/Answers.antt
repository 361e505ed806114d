use Rattle.records.specs.Fields.{mask_of}
use borrow.Author.Rules.{rules}
use Rattle.records.proofs.mask_of.Goals as goal

pub returns : goal.returns
unfolding mask_of
returns c = search rules
