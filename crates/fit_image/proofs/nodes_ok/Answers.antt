use Prim.Native.Nat.{◌*◌}
use mathlib.Core.Path.{◌∙◌, sym}
use native.Mathlib.Omega.{arith}
use Rattle.fit_image.proofs.Loops.{nodes_start, nodes_more, nodes_less, nodes_end}
use borrow.Author.Rules.{rules}
use Rattle.fit_image.proofs.nodes_ok.Goals as goal

pub loop-i-init : goal.loop-i-init
loop-i-init c = let a = c.args in (search rules, nodes_start a.s.now a.n)

pub returns-then-s-i-ne0 : goal.returns-then-s-i-ne0
returns-then-s-i-ne0 c = let l = c.loop-i in let h = c.loop-i-test.true in sym (sym l.invariant.1 ∙ nodes_less _ _ l.i h c.if-s-i-ne0.true)

pub loop-i-preserved : goal.loop-i-preserved
loop-i-preserved c = let l = c.loop-i in let h = c.loop-i-test.true in (search rules, sym (nodes_more _ _ l.i h c.if-s-i-ne0.false) ∙ l.invariant.1)

pub returns : goal.returns
returns c = let l = c.loop-i in let a = c.args in sym (sym l.invariant.1 ∙ nodes_end a.s.now a.n l.i (2 * l.i) (omega arith))
