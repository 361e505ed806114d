use mathlib.Core.Path.{refl, ◌∙◌}
use borrow.Author.Rules.{rules}
use Rattle.log_records.proofs.Puts.{mixed_all, copy_one}
use Rattle.log_records.proofs.images.copy.Goals as goal

pub loop-i-init : goal.loop-i-init
loop-i-init c = (refl, refl)

pub loop-i-preserved : goal.loop-i-preserved
loop-i-preserved c = (search rules, copy_one c.args.to.now c.args.from.now c.loop-i.i c.loop-i-test.true c.requires c.loop-i.invariant.1)

pub returns : goal.returns
returns c = c.loop-i.invariant.1 ∙ mixed_all c.args.to.now c.args.from.now c.loop-i.i c.loop-i-test.false c.requires
