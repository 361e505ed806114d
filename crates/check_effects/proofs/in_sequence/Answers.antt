use mathlib.Core.Path.{sym, ◌∙◌}
use Rattle.check_effects.proofs.EffectParts.{sequence_means}
use Rattle.check_effects.proofs.in_sequence.Goals as goal

pub returns : goal.returns
returns c = λ s u p q l. sequence_means p q (sym c.meet.ensures ∙ c.is_empty.ensures.0 (c.code_if.ensures l).0) (c.union.ensures ∙ rw c.minus.ensures) (c.union-2.ensures ∙ rw c.minus-2.ensures) (λ z. c.code_either-code.ensures (sym (c.code_if.ensures l).1 ∙ z))
