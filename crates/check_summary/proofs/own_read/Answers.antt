use Rattle.check_summary.proofs.Ranges.{none_read, one_read}
use mathlib.Core.Path.{sym, ◌∙◌}
use Rattle.check_summary.proofs.own_read.Goals as goal

pub returns-then-kind_at-eq2 : goal.returns-then-kind_at-eq2
returns-then-kind_at-eq2 c = one_read _ _ _ (sym c.kind_at.ensures ∙ c.if-kind_at-eq2.true) (c.insert.ensures ∙ rw (c.empty.ensures, c.b_at.ensures))

pub returns-else-kind_at-eq2 : goal.returns-else-kind_at-eq2
returns-else-kind_at-eq2 c = none_read _ _ _ (λ e. c.if-kind_at-eq2.false (c.kind_at.ensures ∙ e)) c.empty-else-kind_at-eq2.ensures
