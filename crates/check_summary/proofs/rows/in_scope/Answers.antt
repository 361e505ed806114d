use mathlib.Core.Path.{refl, sym, ◌∙◌}
use Rattle.check_summary.proofs.SummaryParts.{scope_summary}
use Rattle.check_summary.proofs.rows.in_scope.Goals as goal

pub returns : goal.returns
returns c = let held = c.contains.ensures in
    let fails = c.fails_with.ensures in
    λ s p. scope_summary p _ (λ h. ((fails.0 h).0, sym held ∙ (fails.0 h).1), λ h. fails.1 (h.0, held ∙ h.1, refl)) refl c.remove.ensures c.insert.ensures c.insert-2.ensures refl
