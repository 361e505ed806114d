use mathlib.Core.Path.{sym, ◌∙◌}
use borrow.Author.Count.{below_none, below_more}
use Rattle.records.proofs.Loops.{first-at, first-none}
use Rattle.records.proofs.first_of.Goals as goal

pub loop-place-init : goal.loop-place-init
loop-place-init g c = λ p h. below_none _

pub returns-then-test : goal.returns-then-test
returns-then-test g c = λ p h. first-at p _ _ c.loop-place-test.true (c.loop-place.invariant p h) (sym (h _ _ c.loop-place-test.true c.test.ensures) ∙ c.if-test.true)

pub loop-place-preserved : goal.loop-place-preserved
loop-place-preserved g c = λ p h. below_more _ _ (c.loop-place.invariant p h) (sym (h _ _ c.loop-place-test.true c.test.ensures) ∙ c.if-test.false)

pub returns : goal.returns
returns g c = λ p h. first-none p _ _ c.loop-place-test.false (c.loop-place.invariant p h)
