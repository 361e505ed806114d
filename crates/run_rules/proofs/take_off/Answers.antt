use native.Mathlib.Omega.{arith}
use Rattle.run_rules.proofs.Steps.{counted_under, on, moved}
use borrow.Author.Rules.{rules}
use Rattle.run_rules.proofs.take_off.Goals as goal

pub returns : goal.returns
returns c s α f η fr K A R e t = on s _ _ _ _ R α f η K A (c.pop.ensures f η fr K A (R α) e (omega (arith, t.callers, c.requires.0.1)) (counted_under t _ (omega (arith, c.requires.1))))
    (moved t _ K (omega (arith, t.frames))) (search rules) (omega arith)
