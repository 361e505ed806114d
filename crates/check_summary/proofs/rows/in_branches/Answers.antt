use mathlib.Core.Path.{refl, ◌∙◌}
use Rattle.check_summary.proofs.SummaryParts.{branches_summary}
use Rattle.check_summary.proofs.rows.in_branches.Goals as goal

pub returns : goal.returns
returns c = let fails = c.fails_with.ensures in
    λ e s u o p q. branches_summary p q _ o (λ h. ((fails.0 h).0, (fails.0 h).1), λ h. fails.1 (h.0, h.1, refl))
    (c.union-2.ensures ∙ rw c.union.ensures) c.meet.ensures
    (c.union-3.ensures ∙ rw (c.minus-gone.ensures, c.minus-lost.ensures)) c.union-4.ensures refl
