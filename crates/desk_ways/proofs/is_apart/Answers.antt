use borrow.Author.Tests.{eq-eqb, ne_eqb}
use Rattle.spec_language.specs.Statements.{prior, last}
use Rattle.desk_ways.specs.Ways.{apart}
use Rattle.desk_ways.proofs.is_apart.Goals as goal

pub returns-then-kind_at-ne10 : goal.returns-then-kind_at-ne10
unfolding apart
returns-then-kind_at-ne10 c = rw (← c.kind_at.ensures, ne_eqb _ 10 c.if-kind_at-ne10.true)

pub returns : goal.returns
unfolding apart prior last
returns c = rw (c.in_tree-2.ensures, c.in_tree.ensures, c.prior.ensures, c.saturating_sub-second.ensures, ← c.kind_at.ensures, eq-eqb _ 10 c.if-kind_at-ne10.false)
