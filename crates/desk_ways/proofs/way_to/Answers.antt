use Rattle.std.proofs.Common.{refl, sym, ◌∙◌, arith, rules}
use Rattle.spec_language.specs.Scopes.{uses_variable}
use Rattle.spec_language.specs.Known.{names_variable}
use Rattle.spec_language.proofs.KnownNodes.{named}
use Rattle.desk_ways.specs.Ways.{way_to}
use Rattle.desk_ways.proofs.LastGaps.{named_below}
use Rattle.desk_ways.proofs.way_to.Goals as goal

pub last_gap-requires : goal.last_gap-requires
unfolding names_variable uses_variable
last_gap-requires c =
    let same = c.in-Some.ensures.same in
    (omega (arith, same.1), rw c.b_at.ensures (named 2 (c.in-Some.ensures.known.0 refl) (search rules) (sym c.kind_at.ensures ∙ c.if-kind_at-ne2.false) refl))

pub returns-in-Some-clause-told : goal.returns-in-Some-clause-told
unfolding way_to
returns-in-Some-clause-told c = let same = c.in-Some.ensures.same in λ h. c.last_gap.ensures ∙ rw (same.0, same.1, c.b_at.ensures)

pub returns-in-Some-clause-below : goal.returns-in-Some-clause-below
returns-in-Some-clause-below c = named_below _ _ _ _ _ c.last_gap.ensures
