use mathlib.Core.List.{[], ◌∷◌, ◌++◌}
use Rattle.spec_machine.specs.Machine as machine
use mathlib.Core.Path.{refl, ap, ◌∙◌}
use Prim.Native.Nat.{suc, ◌+◌, ◌-◌}
use native.Mathlib.Omega.{arith}
use Rattle.records.specs.Fields.{vars_of}
use Rattle.state_words.specs.Meaning.{control_is, value_is}
use Rattle.run_rules.proofs.Steps.{counted_under}
use Rattle.run_rules.proofs.Entries.{entered_some, entered_describes, on_is, entered_full}
use Rattle.records.proofs.StartTables.{part_laid}
use borrow.Author.Rules.{rules}
use Rattle.run_rules.proofs.calling.enter.Goals as goal

pub returns-then-h-ge-SAVED_LIMIT : goal.returns-then-h-ge-SAVED_LIMIT
returns-then-h-ge-SAVED_LIMIT c α f η k vs K A R e t y p v = entered_full _ _ _ _ R α f _ η _ _ K A t (search rules)

pub body_of-requires : goal.body_of-requires
body_of-requires c = part_laid _ c.args.starts.now _ _ _ c.requires.2 c.requires.3 refl c.count_of-count.ensures.0

pub overflow_add-result-2 : goal.overflow_add-result-2
overflow_add-result-2 c = record { fits = omega (arith, c.requires.0.2) }

pub returns : goal.returns
unfolding control_is
returns c α f η k vs K A R e t y p v = let w = c.wide.ensures.0 ∙ c.vars_of.ensures in
    let i = c.requires.2.1 _ c.requires.3 in
    let u = counted_under t (c.args.h.frames - 1) (omega (arith, c.requires.1)) in
    on_is _ _ _ _ _ R α _ _ _ _ _ _ (ap machine.exec (c.body_of.ensures _ i c.count_of-count.ensures.0)) (entered_some _ _ _ (vs ++ (value_is c.args.v ∷ [])) p)
    (c.enter.ensures f η k vs (vars_of c.args.file.now c.args.g - suc c.args.y) K A (R α) e t.callers u (omega (arith, t.frames)) y
    (omega (arith, w, c.requires.2.0.vars _ c.requires.3)) (omega (arith, w, v, y)))
    (entered_describes _ f η K A _ _ _ _ _ i c.count_of-count.ensures.0 (omega (arith, t.callers)) u) (omega (arith, c.if-h-ge-SAVED_LIMIT.false)) (omega (arith, c.requires.0.2))
