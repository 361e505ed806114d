use native.Mathlib.Omega.{arith}
use mathlib.Core.Logic.{inl, inr}
use Rattle.check_effects.proofs.code_either.Goals as goal

pub returns-then-a-eq-RETURN : goal.returns-then-a-eq-RETURN
returns-then-a-eq-RETURN c = λ e. inl (omega arith)

pub returns-else-a-eq-RETURN : goal.returns-else-a-eq-RETURN
returns-else-a-eq-RETURN c = λ e. inr e
