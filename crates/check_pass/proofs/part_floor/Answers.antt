use Rattle.check_pass.proofs.Clearing.{part_known, clear}
use Rattle.check_scopes.proofs.Decls.{noted_none}
use mathlib.Core.Path.{refl, ◌∙◌}
use native.Mathlib.Omega.{arith}
use Rattle.check_pass.proofs.part_floor.Goals as goal

pub survey_part-asked-requires : goal.survey_part-asked-requires
survey_part-asked-requires c = record { laid = c.requires.laid; inside = c.requires.inside.0; empty = noted_none _ }

pub returns-then-asked-lt8 : goal.returns-then-asked-lt8
returns-then-asked-lt8 c = record { clear = (λ q h k. absurd (omega arith), omega arith, omega arith); room = (refl, refl, refl) }

pub below-begun-requires : goal.below-begun-requires
below-begun-requires c = omega (arith, c.wide.ensures.0, c.params_of.ensures, c.requires.laid.0.params _ c.requires.laid.1)

pub floor-requires : goal.floor-requires
floor-requires c = record { inside = (part_known _ _ _ _ c.requires.laid.0 c.requires.laid.1 c.requires.inside.0 (c.survey_part-asked.ensures (omega (arith, c.if-asked-lt8.false))), c.requires.inside.1, c.requires.inside.2); room = c.requires.room }

pub returns : goal.returns
returns c = record { clear = (clear _ _ _ _ (c.below-begun.ensures ∙ rw (c.wide.ensures.0, c.params_of.ensures)) (c.survey_part-asked.ensures (omega (arith, c.if-asked-lt8.false))) c.floor.ensures.shown.0 c.lower.ensures.0 c.lower.ensures.1 (omega (arith, c.lower.ensures.0, c.floor.ensures.shown.2)), c.lower.ensures.2 (omega (arith, c.floor.ensures.shown.1)) (omega (arith, c.if-asked-lt8.false)), omega (arith, c.lower.ensures.0, c.floor.ensures.shown.2)); room = c.floor.ensures.room }
