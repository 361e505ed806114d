use mathlib.Core.Path.{refl}
use Rattle.check_summary.proofs.SummaryParts.{loop_summary}
use Rattle.check_summary.proofs.rows.in_loop.Goals as goal

pub returns : goal.returns
returns c = λ e s o p. loop_summary p _ o refl c.union.ensures c.empty.ensures refl refl refl
