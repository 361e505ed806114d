use mathlib.Core.List.{◌∷◌}
use native.Mathlib.Omega.{arith}
use Rattle.run_rules.proofs.Steps.{counted, on, moved, full}
use borrow.Author.Rules.{rules}
use Rattle.run_rules.proofs.lay.Goals as goal

pub returns-then-n-ge-FRAME_LIMIT : goal.returns-then-n-ge-FRAME_LIMIT
returns-then-n-ge-FRAME_LIMIT c s α f η fr K A R e t w = full s _ _ _ R α f η fr K A t (search rules)

pub returns : goal.returns
returns c s α f η fr K A R e t w = on s _ _ _ _ R α f η (fr ∷ K) A (c.push.ensures f η fr K A (R α) e (omega (arith, t.callers, c.requires.1)) (counted t) w)
    (moved t _ (fr ∷ K) (omega (arith, t.frames))) (search rules) (omega arith)
