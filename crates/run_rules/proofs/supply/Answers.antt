use native.Mathlib.Omega.{arith}
use Rattle.run_rules.proofs.Steps.{counted_under, on}
use borrow.Author.Rules.{rules}
use Rattle.run_rules.proofs.supply.Goals as goal

pub returns : goal.returns
returns c s α f η g vs d ns K A R e t w y z = on s _ _ _ _ R α f η _ A (c.gain.ensures f η g vs d ns K A (R α) e (omega (arith, t.callers, c.requires.0.1)) (counted_under t _ (omega (arith, c.requires.1))) w y z)
    (record { function = t.function; start = t.start; count = t.count; callers = t.callers; frames = t.frames; under = t.under }) (search rules) (search rules)
