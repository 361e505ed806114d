use Rattle.check_summary.proofs.Arms.{row_sums}
use Rattle.check_summary.proofs.Passing.{goes_by}
use mathlib.Core.Path.{refl, ◌∙◌}
use Rattle.check_summary.proofs.row_through.Goals as goal

pub returns : goal.returns
returns c = λ s h. goes_by _ _ (row_sums _ _ (c.row_at-row.ensures.flags, c.row_at-row.ensures.sets) h) c.is_within-held.ensures refl (c.union.ensures ∙ rw c.minus.ensures)
