-- The history carried along a step is what the state holds.
use mathlib.Core.Path.{◌≡◌, refl, sym, ap, ◌∙◌}
use mathlib.Core.List.{[], ◌∷◌, ◌++◌}
use Prim.Native.Nat.{ℕ}
use Rattle.varset.specs.Sets.{Set}
use Rattle.spec_machine.specs.Values.{type_v}
use Rattle.spec_machine.specs.Program.{fn, apply, Program}
use Rattle.spec_machine.specs.Machine.{saved, State, Rule, Event, arguments, quiet, reads, has, lacks, enters, leaves, ends, Step, first, enter, op_value, op_arith, and_first, and_false, and_true, call_none, call_entry, assert_true, assert_false, if_true, if_false, leave_entry}
use Rattle.spec_machine.specs.Fit.{held, Proper}
use Rattle.spec_machine.specs.Run.{carry, ReadsHeld, all_held, saved_held}
use Rattle.spec_machine.proofs.Accepted.{GoodE, Accepted}
use Rattle.spec_machine.proofs.Holding.{cleared_is, map_last}
use Rattle.spec_machine.proofs.Moves.{store_is, entered-is, entry_known}

module _ {P : Program} (c : Accepted P) where
  -- what was held before, carried by the step's event, is what is held after
  pub carried : {r : Rule} {v : Event} {s t : State} → Step P r v s t → Proper P s → carry v (all_held s) ≡ all_held t
  carried (first e) o = refl
  carried Step.next o = refl
  carried (op_value e) o = refl
  carried (op_arith e) o = refl
  carried (and_first e) o = refl
  carried and_false o = refl
  carried and_true o = refl
  carried (Step.var e) o = refl
  carried (Step.seq e) o = refl
  carried (Step.nop e) o = refl
  carried (Step.assign e) o = refl
  carried (Step.store {A = A}) o = ap (λ (d : Set). d ∷ saved_held A) (store_is P c o)
  carried (Step.decl {x = x} {η = η} {A = A} e) o = ap (λ (d : Set). d ∷ saved_held A) (cleared_is η x)
  carried (Step.assert e) o = refl
  carried assert_true o = refl
  carried assert_false o = refl
  carried (Step.if e) o = refl
  carried if_true o = refl
  carried if_false o = refl
  carried (Step.while e) o = refl
  carried (Step.expr e) o = refl
  carried Step.discard o = refl
  carried (enter {v} {vs} {g} {f} {η} {K} {A}) o =
      ap (λ (d : Set). d ∷ saved_held (saved f η K ∷ A)) (entered-is P c g (vs ++ (v ∷ [])) (o.frames.0 ∙ sym (map_last type_v vs v)) o.frames.3)
  carried (call_none {m} {g} {f} {η} {K} {A} e) o =
      let t : GoodE P f (apply (fn g) []) = rw e at (c.exprs f m o.frames.0) in
      ap (λ (d : Set). d ∷ saved_held (saved f η K ∷ A)) (entered-is P c g [] t.1 t.2)
  carried (call_entry {o = a} {α = α}) o = ap (λ (d : Set). d ∷ []) (entered-is P c α.entry (arguments a) o.1 (entry_known P c o.0))
  carried (Step.return e) o = refl
  carried Step.leave o = refl
  carried leave_entry o = refl
  carried Step.value o = refl

  read_held : {r : Rule} {x : ℕ} {s t : State} → Step P r (reads x) s t → Proper P s → ReadsHeld (reads x) (all_held s)
  read_held (Step.var {m} {x} {f} {η} e) o = c.reads_var f m x (held η) o.frames.0 e o.flows.0

  -- a step that reads a variable reads one that has a value
  pub reads_held : {r : Rule} {v : Event} {s t : State} → Step P r v s t → Proper P s → ReadsHeld v (all_held s)
  reads_held {v = quiet} p o = tt
  reads_held {v = reads x} p o = read_held p o
  reads_held {v = has x} p o = tt
  reads_held {v = lacks x} p o = tt
  reads_held {v = enters n} p o = tt
  reads_held {v = leaves} p o = tt
  reads_held {v = ends} p o = tt
