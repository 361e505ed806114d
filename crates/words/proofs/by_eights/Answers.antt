use Rattle.words.proofs.Tests.{tail, part-more, part_less}
use Rattle.words.specs.Blocks.{all_zero}
use mathlib.Core.Path.{refl, sym, ap, ◌∙◌}
use borrow.Author.Tests.{not-true, not-false}
use borrow.Author.Rules.{rules}
use Rattle.words.proofs.by_eights.Goals as goal

pub loop-at-init : goal.loop-at-init
loop-at-init c = (search rules, refl)

pub returns-then-not-eight_zero : goal.returns-then-not-eight_zero
returns-then-not-eight_zero c = let l = c.loop-at in sym (sym l.invariant.1 ∙ part_less _ l.at 8 (sym c.eight_zero.ensures ∙ not-true _ c.if-not-eight_zero.true-raw))

pub loop-at-preserved : goal.loop-at-preserved
loop-at-preserved c = let l = c.loop-at in (search rules, sym (part-more _ l.at 8 (sym c.eight_zero.ensures ∙ not-false _ c.if-not-eight_zero.false-raw)) ∙ l.invariant.1)

pub returns : goal.returns
returns c = let l = c.loop-at in c.each_zero.ensures ∙ ap all_zero (tail c.args.s.now l.at) ∙ l.invariant.1
