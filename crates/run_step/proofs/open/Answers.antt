use lib.ListN.{length}
use mathlib.Core.Path.{refl, sym, ◌∙◌}
use native.Mathlib.Omega.{arith}
use Prim.Native.Nat.{◌-◌, ◌<◌}
use Rattle.spec_machine.specs.Program.{op}
use Rattle.spec_machine.specs.Machine.{and}
use Rattle.spec_image.specs.Layout.{frame_words, block}
use Rattle.records.specs.Fields.{size_at}
use Rattle.spec_image.proofs.Operands.{waiting_words}
use Rattle.run_rules.proofs.Entries.{on_is}
use Rattle.run_step.proofs.Levels.{some_walk, look_operator, arity_operator, arity_and}
use Rattle.run_step.proofs.Facts.{variables_few, reads_variable, call_params}
use Rattle.run_step.proofs.Opens.{none_evaluated, variable_done, gather_done, and_done}
use Rattle.run_step.proofs.open.Goals as goal

pub variable-v-requires : goal.variable-v-requires
variable-v-requires c = (c.requires.0.0, omega (arith, c.requires.0.1), rw c.b_at-x.ensures (c.requires.2.variable (sym c.kind_at-kind.ensures ∙ c.in-2.is)))

pub overflow_sub-at : goal.overflow_sub-at
overflow_sub-at c = c.requires.2.child (rw (arity_operator _ _ (sym c.kind_at-kind.ensures ∙ c.in-3.is)) (omega arith))

pub overflow_sub-last : goal.overflow_sub-last
overflow_sub-last c = c.requires.2.child (rw (arity_and _ _ (sym c.kind_at-kind.ensures ∙ c.in-4.is)) (omega arith))

pub unreachable-requires : goal.unreachable-requires
unreachable-requires c = none_evaluated _ c.in_default.in_default-own.rest.0.0.0.1 c.in_default.in_default-own.rest.0.0.1 c.in_default.in_default-own.rest.0.1 c.in_default.in_default-own.rest.1 (rw c.kind_at-kind.ensures c.requires.4) (rw c.kind_at-kind.ensures c.requires.3)

pub returns-in-2 : goal.returns-in-2
returns-in-2 c α f η K A R e t pass part fit = let k = sym c.kind_at-kind.ensures ∙ c.in-2.is in
    let x = reads_variable _ pass α f η K A _ fit (rw part at k) in
    let y : c.b_at-x.result < length η = rw (c.b_at-x.ensures, part) x in
    variable_done _ _ _ _ _ R α f η K A _ _ k (c.variable-v.ensures f η K A (R α) e t.callers y (variables_few _ pass _ α f η K A fit) ∙ rw c.b_at-x.ensures)
    (on_is _ _ _ _ _ R α _ f η η K A c.from.ensures refl e t c.requires.0.1 c.requires.0.2)

pub returns-in-3 : goal.returns-in-3
returns-in-3 c α f η K A R e t pass part fit = let k = sym c.kind_at-kind.ensures ∙ c.in-3.is in
    let w = c.wide.ensures.0 ∙ c.a_at.ensures in
    let z = some_walk (size_at c.args.part.now) 2 (c.args.i - 1) (omega arith) in
    gather_done _ _ _ _ _ R α f η K A _ (op c.wide.result) 2 z.first z.rest (look_operator _ _ k ∙ rw w)
    (arity_operator _ _ k) part z.is (c.gather.ensures _ α f η (op c.wide.result) z.first z.rest K A R e t (λ x y. waiting_words (op c.wide.result) x y) z.is)

pub returns-in-4 : goal.returns-in-4
unfolding frame_words block
returns-in-4 c α f η K A R e t pass part fit = let k = sym c.kind_at-kind.ensures ∙ c.in-4.is in
    and_done _ _ _ _ _ R α f η K A _ k part _ c.prior-first.ensures (rw (← c.reach.ensures) (c.lay.ensures _ α f η (and _) K A R e t refl))

pub returns-in-5 : goal.returns-in-5
returns-in-5 c α f η K A R e t pass part fit = let k = sym c.kind_at-kind.ensures ∙ c.in-5.is in
    c.call.ensures α f η K A R e t part (rw part (call_params _ pass α f η K A _ fit (rw part at k)))
