use native.Mathlib.Omega.{arith}
use borrow.Author.Count.{below_none, below_more}
use borrow.Author.Rules.{rules}
use Rattle.records.proofs.PartWalks.{start_first, start_next}
use Rattle.desk_places.proofs.Holding.{held, passed, held_none}
use Rattle.desk_places.proofs.locate_node.Goals as goal

pub loop-f-init : goal.loop-f-init
loop-f-init c = (rw (start_first, c.requires.counted.0), search rules, search rules, below_none _)

pub returns-then-place-end : goal.returns-then-place-end
returns-then-place-end c = let L = c.loop-f in
    held _ _ _ _ _ L.invariant.0 c.count_of.ensures.0 _ c.kind_at.ensures (omega arith) L.invariant.3 c.if-place-end.true

pub loop-f-preserved : goal.loop-f-preserved
loop-f-preserved c = let L = c.loop-f in
    let n = c.count_of.ensures.0 in
    (start_next _ _ L.invariant.0 n, search rules, search rules, below_more _ _ L.invariant.3 (passed _ _ _ _ _ L.invariant.0 n c.if-place-end.false))

pub returns : goal.returns
returns c = held_none _ _ _ _ c.requires.counted.0 (omega arith) c.loop-f.invariant.3
