use mathlib.Core.Path.{refl, sym, ◌∙◌}
use Rattle.check_summary.proofs.SummaryParts.{sequence_summary}
use Rattle.check_summary.proofs.rows.in_sequence.Goals as goal

pub returns : goal.returns
returns c = let late = c.minus-late.ensures in
    let lost = rw late at c.meet.ensures in
    let empty = c.is_empty-together.ensures in
    let fails = c.fails_with.ensures in
    λ s u p q. sequence_summary p q (λ h. ((fails.0 h).0, (fails.0 h).1, sym lost ∙ empty.0 (fails.0 h).2), λ h. fails.1 (h.0, h.1, empty.1 (lost ∙ h.2)))
    (c.union.ensures ∙ rw late) (c.union-2.ensures ∙ rw c.minus.ensures) c.union-3.ensures c.union-4.ensures refl
