use native.Mathlib.Omega.{arith}
use Rattle.check_effects.proofs.EffectParts.{loop_means}
use Rattle.check_effects.proofs.in_loop.Goals as goal

pub returns : goal.returns
returns c = λ e s d o p. loop_means _ o p c.union.ensures c.empty.ensures (λ z. absurd (omega arith))
