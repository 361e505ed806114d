use borrow.Author.Rules.{rules}
use Rattle.records.proofs.Masks.{mask_exact, mask_any}
use Rattle.records.proofs.mask_fits.Goals as goal

pub returns-then-p-le-MOST_PARAMETERS : goal.returns-then-p-le-MOST_PARAMETERS
returns-then-p-le-MOST_PARAMETERS c = rw c.wide.ensures.0 (mask_exact _ _ c.if-p-le-MOST_PARAMETERS.true)

pub returns-else-p-le-MOST_PARAMETERS : goal.returns-else-p-le-MOST_PARAMETERS
returns-else-p-le-MOST_PARAMETERS c = mask_any c.args.mask c.args.p (search rules) c.if-p-le-MOST_PARAMETERS.false
