use mathlib.Core.Path.{refl, sym, ◌∙◌}
use native.Mathlib.Omega.{arith}
use borrow.Author.Tests.{not-true, not-false}
use Rattle.fit_image.specs.BlockTests.{activation_ok}
use Rattle.fit_image.proofs.Loops.{passing_more, passing_less, passing_end}
use Rattle.fit_image.proofs.Rooms.{activations_less, activations_end}
use borrow.Author.Rules.{rules}
use Rattle.fit_image.proofs.activations_ok.Goals as goal

pub loop-i-init : goal.loop-i-init
loop-i-init c = (search rules, refl)

pub returns-then-not-activation_ok : goal.returns-then-not-activation_ok
returns-then-not-activation_ok c = let l = c.loop-i in let h = c.loop-i-test.true in activations_less _ _ (l.invariant.1 ∙ passing_less 136 activation_ok _ 128 l.i h (sym c.activation_ok.ensures ∙ not-true _ c.if-not-activation_ok.true-raw))

pub loop-i-preserved : goal.loop-i-preserved
loop-i-preserved c = let l = c.loop-i in let h = c.loop-i-test.true in (search rules, l.invariant.1 ∙ passing_more 136 activation_ok _ 128 l.i h (sym c.activation_ok.ensures ∙ not-false _ c.if-not-activation_ok.false-raw))

pub returns : goal.returns
returns c = let l = c.loop-i in c.all_zero.ensures ∙ activations_end c.args.m.now _ (l.invariant.1 ∙ passing_end 136 activation_ok _ 128 l.i (omega arith))
