use Rattle.run_step.proofs.Operations.{hand, stored, settled_int, settled_truth, settled_arith}
use mathlib.Core.Path.{refl, sym, ◌∙◌}
use native.Mathlib.Omega.{arith}
use Prim.Native.Nat.{◌-◌}
use Rattle.spec_machine.specs.Values.{result}
use Rattle.state_words.specs.Meaning.{slot_at, value_is, control_is}
use Rattle.run_rules.specs.StepsTo.{StepsTo}
use Rattle.run_rules.proofs.Steps.{counted_under}
use Rattle.run_step.proofs.Sorts.{int_only, int_words}
use Rattle.run_step.proofs.operate.Goals as goal

pub unreachable-requires : goal.unreachable-requires
unreachable-requires c = int_only c.args.v c.requires.ints.0 c.in_default.in_default-own.keys2

pub unreachable-requires-in_default-slot_value : goal.unreachable-requires-in_default-slot_value
unfolding slot_at
unreachable-requires-in_default-slot_value c = int_only c.slot_value.result (int_words _ _ _ c.slot_value.ensures c.requires.ints.1) c.in_default-slot_value.in_default-slot_value-own.keys2

pub returns-in-Int-apply : goal.returns-in-Int-apply
unfolding slot_at value_is control_is
returns-in-Int-apply c α f η a b K A R e t i = let u = counted_under t (c.args.h.frames - 1) (omega (arith, c.requires.bounds.1)) in
    settled_int _ _ _ _ R α f η K A _ _ a b _ _
    (stored _ _ f η _ a K A (R α) _ _ e (omega (arith, t.callers, c.requires.bounds.0.1)) u c.slot_value.ensures c.in-Int-slot_value.is)
    (hand _ _ b c.in-Int.is i) _ (sym c.apply.ensures ∙ c.in-Int-apply.is) (c.take_off.ensures _ α f η _ K A R e t)

pub returns-in-Truth : goal.returns-in-Truth
unfolding slot_at value_is control_is
returns-in-Truth c α f η a b K A R e t i = let u = counted_under t (c.args.h.frames - 1) (omega (arith, c.requires.bounds.1)) in
    settled_truth _ _ _ _ R α f η K A _ _ a b _ _
    (stored _ _ f η _ a K A (R α) _ _ e (omega (arith, t.callers, c.requires.bounds.0.1)) u c.slot_value.ensures c.in-Int-slot_value.is)
    (hand _ _ b c.in-Int.is i) _ (sym c.apply.ensures ∙ c.in-Truth.is) (c.take_off-in-Truth.ensures _ α f η _ K A R e t)

pub returns-in-Arith : goal.returns-in-Arith
unfolding slot_at StepsTo
returns-in-Arith c α f η a b K A R e t i = let u = counted_under t (c.args.h.frames - 1) (omega (arith, c.requires.bounds.1)) in
    settled_arith _ _ _ _ R α f η K A _ _ a b _ _
    (stored _ _ f η _ a K A (R α) _ _ e (omega (arith, t.callers, c.requires.bounds.0.1)) u c.slot_value.ensures c.in-Int-slot_value.is)
    (hand _ _ b c.in-Int.is i) (sym c.apply.ensures ∙ c.in-Arith.is)
    (rw c.raise.ensures.0 (refl, c.raise.ensures.1))
