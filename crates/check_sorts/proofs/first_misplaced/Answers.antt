use mathlib.Core.Path.{◌∙◌}
use borrow.Author.Rules.{rules}
use native.Mathlib.Omega.{arith}
use Rattle.records.proofs.Loops.{lowest_le}
use Rattle.check_sorts.proofs.LowestMisplaced.{body_seen, parent_step, seen_at, seen_none}
use Rattle.check_sorts.proofs.first_misplaced.Goals as goal

pub loop-q-init : goal.loop-q-init
loop-q-init c = rw (c.lower-low.ensures, c.is_expression.ensures, c.kind_at.ensures) (body_seen _ _ c.requires.1)

pub lowest_wrong-low-requires : goal.lowest_wrong-low-requires
lowest_wrong-low-requires c = (search rules, search rules, rw c.loop-q.invariant (lowest_le _ _))

pub loop-q-preserved : goal.loop-q-preserved
loop-q-preserved c = c.lowest_wrong-low.ensures ∙ rw c.loop-q.invariant (parent_step _ _ _)

pub returns-then-low-n : goal.returns-then-low-n
returns-then-low-n c = seen_at _ _ c.loop-q.q _ (omega arith) (omega arith) c.loop-q.invariant c.if-low-n.true

pub returns-else-low-n : goal.returns-else-low-n
returns-else-low-n c = seen_none _ _ c.loop-q.q _ (omega arith) (omega arith) c.loop-q.invariant c.if-low-n.false
