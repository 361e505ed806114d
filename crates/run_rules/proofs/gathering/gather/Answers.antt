use mathlib.Core.Path.{refl, ◌∙◌}
use mathlib.Core.List.{◌∷◌, []}
use native.Mathlib.Omega.{arith}
use Rattle.spec_machine.specs.Machine as machine
use Rattle.run_rules.proofs.Steps.{counted, moved, full}
use Rattle.run_rules.proofs.Entries.{on_is}
use borrow.Author.Rules.{rules}
use Rattle.run_rules.proofs.gathering.gather.Goals as goal

pub returns-then-n-ge-FRAME_LIMIT : goal.returns-then-n-ge-FRAME_LIMIT
returns-then-n-ge-FRAME_LIMIT c s α f η g e ns K A R held t w kids = full s _ _ _ R α f η _ K A t (search rules)

pub returns : goal.returns
returns c s α f η g e ns K A R held t w kids = let p = c.push_gather-first.ensures.1 f η g e ns K A (R α) held (omega (arith, t.callers, c.requires.0.1)) (counted t) w kids in
    on_is s _ _ _ _ R α _ f η η (machine.gather g [] ns ∷ K) A (c.reach.ensures ∙ rw p.0) refl p.1 (moved t _ _ (omega (arith, t.frames))) (search rules) (omega arith)
