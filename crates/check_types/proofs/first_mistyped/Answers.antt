use borrow.Author.Count.{below_more}
use borrow.Author.Rules.{rules}
use Rattle.records.proofs.Loops.{first-at, first-none}
use Rattle.check_types.proofs.Agree.{mistyped_is, typed_more}
use Rattle.check_types.proofs.first_mistyped.Goals as goal

pub returns-then-not-children_agree : goal.returns-then-not-children_agree
returns-then-not-children_agree c = first-at _ _ _ (search rules) c.loop-i.invariant.right (mistyped_is _ _ _ _ _ c.loop-i.types _ _ c.requires.known.0 (search rules) c.loop-i.invariant.typed c.children_agree.ensures c.if-not-children_agree.true-raw)

pub loop-i-preserved : goal.loop-i-preserved
loop-i-preserved c = record { right = below_more _ _ c.loop-i.invariant.right (mistyped_is _ _ _ _ _ c.loop-i.types _ _ c.requires.known.0 (search rules) c.loop-i.invariant.typed c.children_agree.ensures c.if-not-children_agree.false-raw); typed = typed_more _ _ _ _ _ c.loop-i.types _ c.loop-i.invariant.typed (search rules) c.type_of.ensures; room = search rules }

pub returns : goal.returns
returns c = first-none _ _ _ (search rules) c.loop-i.invariant.right
