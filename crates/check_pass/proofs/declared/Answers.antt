use native.Mathlib.Omega.{arith}
use Rattle.check_pass.proofs.declared.Goals as goal

pub returns-then-size_at-eq1 : goal.returns-then-size_at-eq1
returns-then-size_at-eq1 c = record { grown = λ x h. h; own = λ k h. absurd (h (omega (arith, c.size_at.ensures.0, c.if-size_at-eq1.true))) }

pub returns : goal.returns
returns c = record { grown = c.with_decl.ensures.grown; own = λ k h. c.with_decl.ensures.own k }
