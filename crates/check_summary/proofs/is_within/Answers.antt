use Rattle.check_summary.proofs.Passing.{within_is}
use mathlib.Core.Path.{sym, ◌∙◌}
use Rattle.check_summary.proofs.is_within.Goals as goal

pub returns : goal.returns
returns c = (λ e. (within_is _ _).0 (sym c.minus.ensures ∙ c.is_empty.ensures.0 e), λ h. c.is_empty.ensures.1 (c.minus.ensures ∙ (within_is _ _).1 h))
