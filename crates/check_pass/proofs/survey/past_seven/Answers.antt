use native.Mathlib.Omega.{arith}
use lib.Dec.{lit≤}
use borrow.Author.Rules.{rules}
use Rattle.check_pass.proofs.survey.past_seven.Goals as goal

pub returns-in-Some : goal.returns-in-Some
returns-in-Some c = (λ z. absurd (omega arith), lit≤ tt, lit≤ tt)

pub returns-in-None : goal.returns-in-None
returns-in-None c = (λ z. search rules, lit≤ tt, lit≤ tt)
