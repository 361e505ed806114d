use mathlib.Core.Path.{sym, ◌∙◌}
use native.Mathlib.Omega.{arith}
use Prim.Native.Nat.{◌-◌}
use Rattle.spec_machine.specs.Program.{fn}
use Rattle.records.specs.Fields.{size_at}
use Rattle.spec_image.proofs.Operands.{waiting_words}
use Rattle.run_step.proofs.Levels.{some_walk, look_call, arity_call}
use Rattle.run_step.proofs.Leaves.{pos}
use Rattle.run_step.proofs.Opens.{none_done, gather_done}
use Rattle.run_step.proofs.call.Goals as goal

pub enter_none-requires : goal.enter_none-requires
enter_none-requires c = (c.requires.0, c.requires.1, rw c.b_at-g.ensures (c.requires.2.callee c.requires.3))

pub returns-then-k-eq0 : goal.returns-then-k-eq0
returns-then-k-eq0 c α f η K A R e t part p = let a = sym (c.wide-k.ensures.0 ∙ c.a_at.ensures) ∙ c.if-k-eq0.true in
    none_done _ _ _ _ _ R α f η K A _ _ c.requires.3 a c.b_at-g.ensures (c.enter_none.ensures α f η K A R e t (rw c.b_at-g.ensures (p ∙ a)))

pub overflow_sub-i : goal.overflow_sub-i
overflow_sub-i c = let k = pos c.if-k-eq0.false in c.requires.2.child (rw (arity_call _ _ c.requires.3, ← (c.wide-k.ensures.0 ∙ c.a_at.ensures)) k)

pub gather-requires : goal.gather-requires
gather-requires c = let k = pos c.if-k-eq0.false in
    let w = c.wide-k.ensures.0 ∙ c.a_at.ensures in
    let i = c.requires.2.inside in
    let n = c.requires.2.few in
    (c.requires.0, k, rw w (c.requires.2.arguments c.requires.3), omega (arith, i), omega (arith, n))

pub returns : goal.returns
returns c α f η K A R e t part p = let w = c.wide-k.ensures.0 ∙ c.a_at.ensures in
    let z = some_walk (size_at c.args.part.now) c.wide-k.result (c.args.i - 1) (pos c.if-k-eq0.false) in
    gather_done _ _ _ _ _ R α f η K A _ (fn c.b_at-g.result) _ z.first z.rest (look_call _ _ c.requires.3 ∙ rw c.b_at-g.ensures)
    (arity_call _ _ c.requires.3 ∙ sym w) part z.is (c.gather.ensures _ α f η (fn c.b_at-g.result) z.first z.rest K A R e t (λ x y. waiting_words (fn c.b_at-g.result) x y) z.is)
