use mathlib.Core.Path.{sym, ◌∙◌}
use borrow.Author.Tests.{not-true, not-false}
use Rattle.desk_ways.proofs.Gaps.{off_decl, off_way, on_way_lem}
use Rattle.desk_ways.proofs.gap_on_way.Goals as goal

pub returns-then-not-is_under : goal.returns-then-not-is_under
returns-then-not-is_under c = off_decl _ _ _ _ _ _ c.requires.told.0 _ (sym c.is_under.ensures ∙ not-true _ c.if-not-is_under.true-raw)

pub returns-then-some_apart : goal.returns-then-some_apart
returns-then-some_apart c = off_way _ _ _ _ _ _ c.requires.told.0 _ (sym c.some_apart.ensures ∙ c.if-some_apart.true)

pub returns : goal.returns
returns c = rw c.gap_at.ensures (on_way_lem _ _ _ _ _ _ c.requires.told.0 _ (sym c.is_under.ensures ∙ not-false _ c.if-not-is_under.false-raw) (sym c.some_apart.ensures ∙ c.if-some_apart.false))
