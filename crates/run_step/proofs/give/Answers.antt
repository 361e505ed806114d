use Rattle.spec_machine.specs.File.{program_of}
use mathlib.Core.Path.{ap, ◌∙◌}
use native.Mathlib.Omega.{arith}
use Prim.Native.Nat.{◌-◌}
use Rattle.records.specs.Parts.{part_of}
use Rattle.spec_machine.specs.Machine.{Rule}
use Rattle.spec_image.specs.Decode.{ref_of}
use Rattle.state_words.specs.Meaning.{value_is, control_is}
use Rattle.run_rules.proofs.Steps.{counted_under}
use Rattle.run_step.proofs.Views.{is_operator, is_call, is_and, is_wait, is_store, is_branch, is_leave, is_assert, is_discard}
use Rattle.run_step.proofs.GiveNeeds.{over, limited, framed, bounded, few, under, operate_ready, operand_ready, enter_ready, and_ready, store_ready, leave_main_ready, leave_ready, branch_ready, part_inside}
use Rattle.run_step.proofs.GiveResult.{give_operator, give_next, give_call, give_and, give_store, give_branch, give_leave, give_assert, give_discard}
use Rattle.run_step.proofs.give.Goals as goal

-- no value is given to a statement that waits

pub overflow_sub-frames : goal.overflow_sub-frames
overflow_sub-frames c = let x = over c.args.file.now c.args.starts.now (value_is c.args.v) c.args.h c.args.m.now c.requires.0 in
    framed c.args.file.now c.args.starts.now c.args.v c.args.h c.args.m.now x

pub overflow_add-h : goal.overflow_add-h
overflow_add-h c = let x = over c.args.file.now c.args.starts.now (value_is c.args.v) c.args.h c.args.m.now c.requires.0 in
    record { fits = omega (arith, (bounded c.args.file.now c.args.starts.now c.args.v c.args.h c.args.m.now x c.requires.2).2) }

pub top_frame-top-requires : goal.top_frame-top-requires
top_frame-top-requires c = let x = over c.args.file.now c.args.starts.now (value_is c.args.v) c.args.h c.args.m.now c.requires.0 in
    let q = bounded c.args.file.now c.args.starts.now c.args.v c.args.h c.args.m.now x c.requires.2 in
    (q.0, omega (arith, q.2, framed c.args.file.now c.args.starts.now c.args.v c.args.h c.args.m.now x))

pub operate-requires : goal.operate-requires
operate-requires c = let x = over c.args.file.now c.args.starts.now (value_is c.args.v) c.args.h c.args.m.now c.requires.0 in
    let v = c.top_frame-top.ensures _ x.variables x.top x.frames x.callers x.rest x.held (few c.args.file.now c.args.starts.now c.args.v c.args.h c.args.m.now x) (under c.args.file.now c.args.starts.now c.args.v c.args.h c.args.m.now x) in
    let r = operate_ready c.args.file.now c.args.starts.now c.args.v c.args.h c.args.m.now x _ _ _ (is_operator _ _ v _ _ _ c.in-Operator.is) c.if-z-eq0.true in record { bounds = ((bounded c.args.file.now c.args.starts.now c.args.v c.args.h c.args.m.now x c.requires.2), (framed c.args.file.now c.args.starts.now c.args.v c.args.h c.args.m.now x), r.0, omega (arith, x.starts.0.heads)); ints = (r.1, r.2) }

pub returns-then-z-eq0 : goal.returns-then-z-eq0
unfolding control_is ref_of value_is
returns-then-z-eq0 c α f η fr K A R e t fit = let x = over c.args.file.now c.args.starts.now (value_is c.args.v) c.args.h c.args.m.now c.requires.0 in
    let p = x.passed in
    let w = c.top_frame-top.ensures f η fr K A (R α) e (omega (arith, (limited t fit).0, t.callers)) (counted_under t (c.args.h.frames - 1) (omega (arith, t.frames))) in
    give_operator _ _ _ _ _ R α f η fr K A _ p e t fit _ _ _ (is_operator _ _ w _ _ _ c.in-Operator.is) c.if-z-eq0.true (λ i j k l n. c.operate.ensures α f η i j K A R k l n)

pub next_operand-requires : goal.next_operand-requires
unfolding program_of
next_operand-requires c = let x = over c.args.file.now c.args.starts.now (value_is c.args.v) c.args.h c.args.m.now c.requires.0 in
    let v = c.top_frame-top.ensures _ x.variables x.top x.frames x.callers x.rest x.held (few c.args.file.now c.args.starts.now c.args.v c.args.h c.args.m.now x) (under c.args.file.now c.args.starts.now c.args.v c.args.h c.args.m.now x) in
    let r = operand_ready c.args.file.now c.args.starts.now c.args.v c.args.h c.args.m.now x _ _ _ (is_operator _ _ v _ _ _ c.in-Operator.is) c.if-z-eq0.false in record { bounds = ((bounded c.args.file.now c.args.starts.now c.args.v c.args.h c.args.m.now x c.requires.2), (framed c.args.file.now c.args.starts.now c.args.v c.args.h c.args.m.now x), r.0, r.1); inside = part_inside _ c.args.starts.now _ c.args.h.function _ x.starts x.fit.proper.known c.requires.1 r.2 }

pub enter-requires : goal.enter-requires
enter-requires c = let x = over c.args.file.now c.args.starts.now (value_is c.args.v) c.args.h c.args.m.now c.requires.0 in
    let v = c.top_frame-top.ensures _ x.variables x.top x.frames x.callers x.rest x.held (few c.args.file.now c.args.starts.now c.args.v c.args.h c.args.m.now x) (under c.args.file.now c.args.starts.now c.args.v c.args.h c.args.m.now x) in
    let r = enter_ready c.args.file.now c.args.starts.now c.args.v c.args.h c.args.m.now x _ _ _ (is_call _ _ v _ _ _ c.in-Call.is) c.if-z-eq0-2.true in
    ((bounded c.args.file.now c.args.starts.now c.args.v c.args.h c.args.m.now x c.requires.2), (framed c.args.file.now c.args.starts.now c.args.v c.args.h c.args.m.now x), x.starts, r.0, r.1)

pub returns-then-z-eq0-2 : goal.returns-then-z-eq0-2
unfolding control_is ref_of value_is
returns-then-z-eq0-2 c α f η fr K A R e t fit = let x = over c.args.file.now c.args.starts.now (value_is c.args.v) c.args.h c.args.m.now c.requires.0 in
    let p = x.passed in
    let w = c.top_frame-top.ensures f η fr K A (R α) e (omega (arith, (limited t fit).0, t.callers)) (counted_under t (c.args.h.frames - 1) (omega (arith, t.frames))) in
    give_call _ _ _ _ _ R α f η fr K A _ p e t fit _ _ _ (is_call _ _ w _ _ _ c.in-Call.is) c.if-z-eq0-2.true (λ vs k l n q r. c.enter.ensures α f η _ vs K A R k l n q r)

pub next_operand-requires-in-Call : goal.next_operand-requires-in-Call
unfolding program_of
next_operand-requires-in-Call c = let x = over c.args.file.now c.args.starts.now (value_is c.args.v) c.args.h c.args.m.now c.requires.0 in
    let v = c.top_frame-top.ensures _ x.variables x.top x.frames x.callers x.rest x.held (few c.args.file.now c.args.starts.now c.args.v c.args.h c.args.m.now x) (under c.args.file.now c.args.starts.now c.args.v c.args.h c.args.m.now x) in
    let r = operand_ready c.args.file.now c.args.starts.now c.args.v c.args.h c.args.m.now x _ _ _ (is_call _ _ v _ _ _ c.in-Call.is) c.if-z-eq0-2.false in record { bounds = ((bounded c.args.file.now c.args.starts.now c.args.v c.args.h c.args.m.now x c.requires.2), (framed c.args.file.now c.args.starts.now c.args.v c.args.h c.args.m.now x), r.0, r.1); inside = part_inside _ c.args.starts.now _ c.args.h.function _ x.starts x.fit.proper.known c.requires.1 r.2 }

pub reach-c-requires : goal.reach-c-requires
unfolding program_of
reach-c-requires c = let x = over c.args.file.now c.args.starts.now (value_is c.args.v) c.args.h c.args.m.now c.requires.0 in
    let v = c.top_frame-top.ensures _ x.variables x.top x.frames x.callers x.rest x.held (few c.args.file.now c.args.starts.now c.args.v c.args.h c.args.m.now x) (under c.args.file.now c.args.starts.now c.args.v c.args.h c.args.m.now x) in
    let r = and_ready c.args.file.now c.args.starts.now c.args.v c.args.h c.args.m.now x _ (is_and _ _ v _ c.in-And.is) in
    part_inside _ c.args.starts.now _ c.args.h.function _ x.starts x.fit.proper.known c.requires.1 r.1

pub choose-requires : goal.choose-requires
choose-requires c = let x = over c.args.file.now c.args.starts.now (value_is c.args.v) c.args.h c.args.m.now c.requires.0 in
    let v = c.top_frame-top.ensures _ x.variables x.top x.frames x.callers x.rest x.held (few c.args.file.now c.args.starts.now c.args.v c.args.h c.args.m.now x) (under c.args.file.now c.args.starts.now c.args.v c.args.h c.args.m.now x) in
    ((bounded c.args.file.now c.args.starts.now c.args.v c.args.h c.args.m.now x c.requires.2), (framed c.args.file.now c.args.starts.now c.args.v c.args.h c.args.m.now x), (and_ready c.args.file.now c.args.starts.now c.args.v c.args.h c.args.m.now x _ (is_and _ _ v _ c.in-And.is)).0)

pub unreachable-requires : goal.unreachable-requires
unreachable-requires c = let x = over c.args.file.now c.args.starts.now (value_is c.args.v) c.args.h c.args.m.now c.requires.0 in
    let v = c.top_frame-top.ensures _ x.variables x.top x.frames x.callers x.rest x.held (few c.args.file.now c.args.starts.now c.args.v c.args.h c.args.m.now x) (under c.args.file.now c.args.starts.now c.args.v c.args.h c.args.m.now x) in
    (rw (is_wait _ _ v _ c.in-Wait.is) at x.fit).proper.frames

pub assign-requires : goal.assign-requires
assign-requires c = let x = over c.args.file.now c.args.starts.now (value_is c.args.v) c.args.h c.args.m.now c.requires.0 in
    let v = c.top_frame-top.ensures _ x.variables x.top x.frames x.callers x.rest x.held (few c.args.file.now c.args.starts.now c.args.v c.args.h c.args.m.now x) (under c.args.file.now c.args.starts.now c.args.v c.args.h c.args.m.now x) in
    ((bounded c.args.file.now c.args.starts.now c.args.v c.args.h c.args.m.now x c.requires.2), (framed c.args.file.now c.args.starts.now c.args.v c.args.h c.args.m.now x), store_ready c.args.file.now c.args.starts.now c.args.v c.args.h c.args.m.now x _ (is_store _ _ v _ c.in-Store.is))

pub choose-requires-in-Branch : goal.choose-requires-in-Branch
choose-requires-in-Branch c = let x = over c.args.file.now c.args.starts.now (value_is c.args.v) c.args.h c.args.m.now c.requires.0 in
    let v = c.top_frame-top.ensures _ x.variables x.top x.frames x.callers x.rest x.held (few c.args.file.now c.args.starts.now c.args.v c.args.h c.args.m.now x) (under c.args.file.now c.args.starts.now c.args.v c.args.h c.args.m.now x) in
    ((bounded c.args.file.now c.args.starts.now c.args.v c.args.h c.args.m.now x c.requires.2), (framed c.args.file.now c.args.starts.now c.args.v c.args.h c.args.m.now x), branch_ready c.args.file.now c.args.starts.now c.args.v c.args.h c.args.m.now x (rw (is_branch _ _ v _ _ c.in-Branch.is) at x.fit).proper.frames.0)

pub depart-requires : goal.depart-requires
depart-requires c = let x = over c.args.file.now c.args.starts.now (value_is c.args.v) c.args.h c.args.m.now c.requires.0 in
    let v = c.top_frame-top.ensures _ x.variables x.top x.frames x.callers x.rest x.held (few c.args.file.now c.args.starts.now c.args.v c.args.h c.args.m.now x) (under c.args.file.now c.args.starts.now c.args.v c.args.h c.args.m.now x) in
    let e = is_leave _ _ v c.in-Leave.is in record { bounds = ((bounded c.args.file.now c.args.starts.now c.args.v c.args.h c.args.m.now x c.requires.2), x.starts); outermost = leave_main_ready c.args.file.now c.args.starts.now c.args.v c.args.h c.args.m.now x e; called = leave_ready c.args.file.now c.args.starts.now c.args.v c.args.h c.args.m.now x e }

pub affirm-requires : goal.affirm-requires
affirm-requires c = let x = over c.args.file.now c.args.starts.now (value_is c.args.v) c.args.h c.args.m.now c.requires.0 in
    let v = c.top_frame-top.ensures _ x.variables x.top x.frames x.callers x.rest x.held (few c.args.file.now c.args.starts.now c.args.v c.args.h c.args.m.now x) (under c.args.file.now c.args.starts.now c.args.v c.args.h c.args.m.now x) in
    ((bounded c.args.file.now c.args.starts.now c.args.v c.args.h c.args.m.now x c.requires.2), (framed c.args.file.now c.args.starts.now c.args.v c.args.h c.args.m.now x), branch_ready c.args.file.now c.args.starts.now c.args.v c.args.h c.args.m.now x (rw (is_assert _ _ v c.in-Assert.is) at x.fit).proper.frames.0)

pub take_off-requires : goal.take_off-requires
take_off-requires c = let x = over c.args.file.now c.args.starts.now (value_is c.args.v) c.args.h c.args.m.now c.requires.0 in
    ((bounded c.args.file.now c.args.starts.now c.args.v c.args.h c.args.m.now x c.requires.2), (framed c.args.file.now c.args.starts.now c.args.v c.args.h c.args.m.now x))

pub returns-else-z-eq0 : goal.returns-else-z-eq0
unfolding control_is ref_of value_is
returns-else-z-eq0 c α f η fr K A R e t fit = let x = over c.args.file.now c.args.starts.now (value_is c.args.v) c.args.h c.args.m.now c.requires.0 in
    let p = x.passed in
    let w = c.top_frame-top.ensures f η fr K A (R α) e (omega (arith, (limited t fit).0, t.callers)) (counted_under t (c.args.h.frames - 1) (omega (arith, t.frames))) in
    give_next _ _ _ _ _ R α f η fr K A _ p e t fit _ _ _ _ (c.requires.1 ∙ ap (part_of c.args.file.now) t.function) (is_operator _ _ w _ _ _ c.in-Operator.is) c.if-z-eq0.false (λ vs d ns k l n q r. c.next_operand.ensures _ α f η _ vs d ns K A R k l n q r)

pub returns-else-z-eq0-2 : goal.returns-else-z-eq0-2
unfolding control_is ref_of value_is
returns-else-z-eq0-2 c α f η fr K A R e t fit = let x = over c.args.file.now c.args.starts.now (value_is c.args.v) c.args.h c.args.m.now c.requires.0 in
    let p = x.passed in
    let w = c.top_frame-top.ensures f η fr K A (R α) e (omega (arith, (limited t fit).0, t.callers)) (counted_under t (c.args.h.frames - 1) (omega (arith, t.frames))) in
    give_next _ _ _ _ _ R α f η fr K A _ p e t fit _ _ _ _ (c.requires.1 ∙ ap (part_of c.args.file.now) t.function) (is_call _ _ w _ _ _ c.in-Call.is) c.if-z-eq0-2.false (λ vs d ns k l n q r. c.next_operand-in-Call.ensures _ α f η _ vs d ns K A R k l n q r)

pub returns-in-And : goal.returns-in-And
unfolding control_is ref_of value_is
returns-in-And c α f η fr K A R e t fit = let x = over c.args.file.now c.args.starts.now (value_is c.args.v) c.args.h c.args.m.now c.requires.0 in
    let p = x.passed in
    let w = c.top_frame-top.ensures f η fr K A (R α) e (omega (arith, (limited t fit).0, t.callers)) (counted_under t (c.args.h.frames - 1) (omega (arith, t.frames))) in
    give_and _ _ _ _ _ R α f η fr K A _ p e t fit _ _ (c.requires.1 ∙ ap (part_of c.args.file.now) t.function) (is_and _ _ w _ c.in-And.is) (rw (← c.reach-c.ensures) (c.choose.ensures _ Rule.and_true Rule.and_false α f η fr K A R e t))

pub returns-in-Store : goal.returns-in-Store
unfolding control_is ref_of value_is
returns-in-Store c α f η fr K A R e t fit = let x = over c.args.file.now c.args.starts.now (value_is c.args.v) c.args.h c.args.m.now c.requires.0 in
    let p = x.passed in
    let w = c.top_frame-top.ensures f η fr K A (R α) e (omega (arith, (limited t fit).0, t.callers)) (counted_under t (c.args.h.frames - 1) (omega (arith, t.frames))) in
    give_store _ _ _ _ _ R α f η fr K A _ p e t fit _ (is_store _ _ w _ c.in-Store.is) (λ i j. c.assign.ensures _ α f η fr K A R e t i j)

pub returns-in-Branch : goal.returns-in-Branch
unfolding control_is ref_of value_is
returns-in-Branch c α f η fr K A R e t fit = let x = over c.args.file.now c.args.starts.now (value_is c.args.v) c.args.h c.args.m.now c.requires.0 in
    let p = x.passed in
    let w = c.top_frame-top.ensures f η fr K A (R α) e (omega (arith, (limited t fit).0, t.callers)) (counted_under t (c.args.h.frames - 1) (omega (arith, t.frames))) in
    give_branch _ _ _ _ _ R α f η fr K A _ p e t fit _ _ (is_branch _ _ w _ _ c.in-Branch.is) (c.choose-in-Branch.ensures _ Rule.if_true Rule.if_false α f η fr K A R e t)

pub returns-in-Leave : goal.returns-in-Leave
unfolding control_is ref_of value_is
returns-in-Leave c α f η fr K A R e t fit = let x = over c.args.file.now c.args.starts.now (value_is c.args.v) c.args.h c.args.m.now c.requires.0 in
    let p = x.passed in
    let w = c.top_frame-top.ensures f η fr K A (R α) e (omega (arith, (limited t fit).0, t.callers)) (counted_under t (c.args.h.frames - 1) (omega (arith, t.frames))) in
    give_leave _ _ _ _ _ R α f η fr K A _ p e t fit (is_leave _ _ w c.in-Leave.is) (c.depart.ensures α f η _ A R e t)

pub returns-in-Assert : goal.returns-in-Assert
unfolding control_is ref_of value_is
returns-in-Assert c α f η fr K A R e t fit = let x = over c.args.file.now c.args.starts.now (value_is c.args.v) c.args.h c.args.m.now c.requires.0 in
    let p = x.passed in
    let w = c.top_frame-top.ensures f η fr K A (R α) e (omega (arith, (limited t fit).0, t.callers)) (counted_under t (c.args.h.frames - 1) (omega (arith, t.frames))) in
    give_assert _ _ _ _ _ R α f η fr K A _ p e t fit (is_assert _ _ w c.in-Assert.is) (c.affirm.ensures _ Rule.assert_true Rule.assert_false α f η fr K A R e t)

pub returns-in-Discard : goal.returns-in-Discard
unfolding control_is ref_of value_is
returns-in-Discard c α f η fr K A R e t fit = let x = over c.args.file.now c.args.starts.now (value_is c.args.v) c.args.h c.args.m.now c.requires.0 in
    let p = x.passed in
    let w = c.top_frame-top.ensures f η fr K A (R α) e (omega (arith, (limited t fit).0, t.callers)) (counted_under t (c.args.h.frames - 1) (omega (arith, t.frames))) in
    give_discard _ _ _ _ _ R α f η fr K A _ p e t fit (is_discard _ _ w c.in-Discard.is) (c.take_off.ensures _ α f η fr K A R e t)
