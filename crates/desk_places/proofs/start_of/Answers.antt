use mathlib.Core.Path.{◌≡◌}
use native.Mathlib.Omega.{arith}
use borrow.Author.Rules.{rules}
use Rattle.records.proofs.PartWalks.{start_first, start_next}
use Rattle.desk_places.proofs.start_of.Goals as goal

pub loop-f-init : goal.loop-f-init
loop-f-init c = (rw (start_first, c.requires.counted.0), search rules)

pub loop-f-preserved : goal.loop-f-preserved
loop-f-preserved c = (start_next _ _ c.loop-f.invariant.0 c.count_of-start.ensures.0, search rules)

pub returns : goal.returns
returns c = let e : c.loop-f.f ≡ c.args.function = omega arith in
    (rw (c.loop-f.invariant.0, e), search rules)
