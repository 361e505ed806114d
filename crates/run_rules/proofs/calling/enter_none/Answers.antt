use mathlib.Core.Path.{refl, ap, ◌∙◌}
use native.Mathlib.Omega.{arith}
use lib.ListN.{replicate}
use Rattle.spec_machine.specs.Values.{nothing}
use Rattle.spec_machine.specs.Machine as machine
use Rattle.state_words.specs.Meaning.{control_is}
use Rattle.run_rules.proofs.Steps.{counted}
use Rattle.run_rules.proofs.Entries.{entered_none, entered_describes, on_is, entered_full}
use Rattle.records.proofs.StartTables.{part_laid}
use borrow.Author.Rules.{rules}
use Rattle.run_rules.proofs.calling.enter_none.Goals as goal

pub returns-then-h-ge-SAVED_LIMIT : goal.returns-then-h-ge-SAVED_LIMIT
returns-then-h-ge-SAVED_LIMIT c α f η K A R e t p = entered_full _ _ _ _ R α f _ η _ _ K A t (search rules)

pub body_of-requires : goal.body_of-requires
body_of-requires c = part_laid _ c.args.starts.now _ _ _ c.requires.1 c.requires.2 refl c.count_of-count.ensures.0

pub returns : goal.returns
unfolding control_is
returns c α f η K A R e t p = let w = c.wide.ensures.0 ∙ c.vars_of.ensures in
    let i = c.requires.1.1 _ c.requires.2 in
    on_is _ _ _ _ _ R α _ _ _ (replicate c.wide.result nothing) _ _ (ap machine.exec (c.body_of.ensures _ i c.count_of-count.ensures.0)) (rw w (entered_none _ _ p))
    (c.enter_none.ensures f η K A (R α) e t.callers t.frames (omega (arith, w, c.requires.1.0.vars _ c.requires.2)))
    (entered_describes _ f η K A _ _ _ _ _ i c.count_of-count.ensures.0 (omega (arith, t.callers)) (counted t)) (omega (arith, c.if-h-ge-SAVED_LIMIT.false)) (omega (arith, c.requires.0.2))
