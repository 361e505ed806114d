use mathlib.Core.Path.{sym, ◌∙◌}
use Rattle.state_words.specs.Meaning.{control_is, value_is}
use Rattle.run_rules.proofs.Looks.{look_int, look_bool, look_nothing, reach_other}
use Rattle.run_rules.proofs.gathering.reach.Goals as goal

pub returns-in-0 : goal.returns-in-0
unfolding control_is value_is
returns-in-0 c = rw (look_int _ _ (sym c.kind_at-kind.ensures ∙ c.in-0.is), c.b_at.ensures)

pub returns-in-1 : goal.returns-in-1
unfolding control_is value_is
returns-in-1 c = rw (look_bool _ _ (sym c.kind_at-kind.ensures ∙ c.in-1.is), c.b_at-in-1.ensures)

pub returns-in-15 : goal.returns-in-15
unfolding control_is value_is
returns-in-15 c = rw (look_nothing _ _ (sym c.kind_at-kind.ensures ∙ c.in-15.is))

pub returns-in_default : goal.returns-in_default
unfolding control_is value_is
returns-in_default c = let r = c.in_default.in_default-own.rest in reach_other _ _ (λ e. r.0.0.1 (c.kind_at-kind.ensures ∙ e)) (λ e. r.0.1 (c.kind_at-kind.ensures ∙ e)) (λ e. r.1 (c.kind_at-kind.ensures ∙ e))
