use mathlib.Core.Bool.{false≢true}
use mathlib.Core.Path.{◌∙◌}
use Rattle.check_pass.proofs.Limits.{within}
use Rattle.check_pass.proofs.survey.within_limits.Goals as goal

pub returns-then-kind-lt-KINDS : goal.returns-then-kind-lt-KINDS
returns-then-kind-lt-KINDS c = within _ _ _ _ c.requires.limits.0 c.requires.limits.1 c.mark_at.ensures c.a_at.ensures c.b_at-b.ensures (c.wide-kind.ensures.0 ∙ c.kind_at.ensures) c.if-kind-lt-KINDS.true

pub returns-else-kind-lt-KINDS : goal.returns-else-kind-lt-KINDS
returns-else-kind-lt-KINDS c = λ z. absurd (false≢true z)
