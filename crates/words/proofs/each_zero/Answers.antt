use Rattle.words.proofs.Tests.{zero_more, zero_less, ended}
use Rattle.words.specs.Blocks.{all_zero}
use mathlib.Core.Path.{◌∙◌, sym, refl, ap}
use native.Mathlib.Omega.{arith}
use borrow.Author.Rules.{rules}
use Rattle.words.proofs.each_zero.Goals as goal

pub loop-i-init : goal.loop-i-init
loop-i-init c = (search rules, refl)

pub returns-then-s-i-ne0 : goal.returns-then-s-i-ne0
returns-then-s-i-ne0 c = let l = c.loop-i in sym (sym l.invariant.1 ∙ zero_less _ l.i c.loop-i-test.true c.if-s-i-ne0.true)

pub loop-i-preserved : goal.loop-i-preserved
loop-i-preserved c = let l = c.loop-i in (search rules, sym (zero_more _ l.i c.loop-i-test.true c.if-s-i-ne0.false) ∙ l.invariant.1)

pub returns : goal.returns
returns c = let l = c.loop-i in sym (sym l.invariant.1 ∙ ap all_zero (ended c.args.s.now l.i (omega arith)))
