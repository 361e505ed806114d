use native.Mathlib.Omega.{arith}
use Rattle.check_effects.proofs.code_if.Goals as goal

pub returns-else-passes : goal.returns-else-passes
returns-else-passes c = λ h. absurd (omega arith)
