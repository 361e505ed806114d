use Rattle.std.proofs.Common.{arith, rules}
use Rattle.check_types.proofs.Agree.{agree_all, agree_inside, agree_not, agree_more, agree_end}
use Rattle.check_types.proofs.TypeTables.{argument_few}
use Rattle.check_types.proofs.children_agree.Goals as goal

pub loop-k-init : goal.loop-k-init
loop-k-init c = agree_all _ _ _ _ _ (search rules) cc

pub want_of-want-requires-clause-inside : goal.want_of-want-requires-clause-inside
want_of-want-requires-clause-inside c = (search rules, search rules, argument_few _ _ _ _ c.requires.known.0 (search rules) (agree_inside c.loop-k.invariant c.in-Some.ensures.steps).0)

pub returns-then-not-is_suited : goal.returns-then-not-is_suited
returns-then-not-is_suited c = agree_not c.loop-k.invariant c.in-Some.ensures.steps _ _ c.want_of-want.ensures c.is_suited.ensures c.if-not-is_suited.true-raw

pub loop-k-preserved : goal.loop-k-preserved
loop-k-preserved c = agree_more c.loop-k.invariant c.in-Some.ensures.steps _ _ c.want_of-want.ensures c.is_suited.ensures c.if-not-is_suited.false-raw

pub bounds-types-child : goal.bounds-types-child
bounds-types-child c = let inside = agree_inside c.loop-k.invariant c.in-Some.ensures.steps in omega arith

pub returns : goal.returns
returns c = agree_end c.loop-k.invariant c.in-None.ensures.steps.0
