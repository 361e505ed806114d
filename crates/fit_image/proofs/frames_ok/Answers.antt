use mathlib.Core.Path.{refl, sym, ◌∙◌}
use native.Mathlib.Omega.{arith}
use borrow.Author.Tests.{not-true, not-false}
use Rattle.fit_image.specs.BlockTests.{frame_ok}
use Rattle.fit_image.proofs.Loops.{passing_more, passing_less, passing_end}
use Rattle.fit_image.proofs.Rooms.{frames_less, frames_end}
use borrow.Author.Rules.{rules}
use Rattle.fit_image.proofs.frames_ok.Goals as goal

pub loop-i-init : goal.loop-i-init
loop-i-init c = (search rules, refl)

pub returns-then-not-frame_ok : goal.returns-then-not-frame_ok
returns-then-not-frame_ok c = let l = c.loop-i in let h = c.loop-i-test.true in frames_less _ _ (l.invariant.1 ∙ passing_less 20 frame_ok _ 4480 l.i h (sym c.frame_ok.ensures ∙ not-true _ c.if-not-frame_ok.true-raw))

pub loop-i-preserved : goal.loop-i-preserved
loop-i-preserved c = let l = c.loop-i in let h = c.loop-i-test.true in (search rules, l.invariant.1 ∙ passing_more 20 frame_ok _ 4480 l.i h (sym c.frame_ok.ensures ∙ not-false _ c.if-not-frame_ok.false-raw))

pub returns : goal.returns
returns c = let l = c.loop-i in c.all_zero.ensures ∙ frames_end c.args.m.now _ (l.invariant.1 ∙ passing_end 20 frame_ok _ 4480 l.i (omega arith))
