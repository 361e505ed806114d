use Prim.Native.Nat.{◌*◌}
use mathlib.Core.Path.{◌∙◌, sym}
use native.Mathlib.Omega.{arith}
use borrow.Author.Tests.{not-true, not-false}
use Rattle.fit_image.proofs.Loops.{values_start, values_more, values_less, values_end}
use borrow.Author.Rules.{rules}
use Rattle.fit_image.proofs.values_ok.Goals as goal

pub loop-i-init : goal.loop-i-init
loop-i-init c = let a = c.args in (search rules, values_start a.s.now a.n)

pub returns-then-not-value_ok : goal.returns-then-not-value_ok
returns-then-not-value_ok c = let l = c.loop-i in let h = c.loop-i-test.true in sym (sym l.invariant.1 ∙ values_less _ _ l.i h (sym c.value_ok.ensures ∙ not-true _ c.if-not-value_ok.true-raw))

pub loop-i-preserved : goal.loop-i-preserved
loop-i-preserved c = let l = c.loop-i in let h = c.loop-i-test.true in (search rules, sym (values_more _ _ l.i h (sym c.value_ok.ensures ∙ not-false _ c.if-not-value_ok.false-raw)) ∙ l.invariant.1)

pub returns : goal.returns
returns c = let l = c.loop-i in let a = c.args in sym (sym l.invariant.1 ∙ values_end a.s.now a.n l.i (2 * l.i) (omega arith))
