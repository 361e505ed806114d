use borrow.Author.Tests.{not-false}
use native.Mathlib.Omega.{arith}
use Rattle.check_pass.proofs.least.Goals as goal

pub returns-then-not-held : goal.returns-then-not-held
returns-then-not-held c = (λ h. absurd (omega arith), λ h. absurd (omega arith), omega arith, omega arith)

pub returns-then-not-returning : goal.returns-then-not-returning
returns-then-not-returning c = (λ h. not-false _ c.if-not-held.false-raw, λ h. absurd (omega arith), omega arith, omega arith)

pub returns : goal.returns
returns c = (λ h. not-false _ c.if-not-held.false-raw, λ h. not-false _ c.if-not-returning.false-raw, omega arith, omega arith)
