use mathlib.Core.Path.{sym, ◌∙◌}
use Rattle.spec_language.specs.Statements.{prior, last}
use Rattle.desk_ways.proofs.Gaps.{gap_if, gap_while, no_gap_while, gap_none}
use Rattle.desk_ways.proofs.gap_at.Goals as goal

pub returns-then-gives_value : goal.returns-then-gives_value
unfolding last
returns-then-gives_value c = gap_while _ _ _ c.gives_value-in-11.result (sym c.kind_at-kind.ensures ∙ c.in-11.is) (c.gives_value-in-11.ensures ∙ rw c.saturating_sub-body.ensures) c.if-gives_value.true

pub returns-in-10 : goal.returns-in-10
unfolding prior last
returns-in-10 c = c.uneven_branch.ensures ∙ gap_if _ _ _ _ _ (sym c.kind_at-kind.ensures ∙ c.in-10.is) (c.gives_value-first.ensures ∙ rw (c.prior.ensures, c.saturating_sub-body.ensures)) (c.gives_value.ensures ∙ rw c.saturating_sub-body.ensures)

pub returns-else-gives_value : goal.returns-else-gives_value
unfolding last
returns-else-gives_value c = no_gap_while _ _ _ c.gives_value-in-11.result (sym c.kind_at-kind.ensures ∙ c.in-11.is) (c.gives_value-in-11.ensures ∙ rw c.saturating_sub-body.ensures) c.if-gives_value.false

pub returns-in_default : goal.returns-in_default
returns-in_default c = gap_none _ _ _ (λ e. c.in_default.in_default-own.rest.0.1 (c.kind_at-kind.ensures ∙ e)) (λ e. c.in_default.in_default-own.rest.1 (c.kind_at-kind.ensures ∙ e))
