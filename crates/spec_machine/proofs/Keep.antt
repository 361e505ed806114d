-- A rule takes a proper state to a proper state.
use mathlib.Core.Path.{◌≡◌, refl, sym, ◌∙◌}
use mathlib.Core.Logic.{inl, inr}
use mathlib.Core.Bool.{true, ◌&&◌, or_assoc, and-false as false_right}
use mathlib.Core.List.{List, [], ◌∷◌, ◌++◌}
use Prim.Native.Nat.{ℕ}
use lib.ListN.{set}
use Rattle.varset.specs.Sets.{Set, without, both, Sub}
use Rattle.records.proofs.Bools.{either_mono, and_left, and_right}
use Rattle.spec_language.specs.Statements.{Statement, While}
use Rattle.spec_language.specs.Flow.{leaves, returns}
use Rattle.spec_language.proofs.Flows.{Scope, ok_seq, ok_assign, ok_decl, ok_if, ok_return, ok_assert, ok_expr, while_ok, while_leaves}
use Rattle.spec_machine.specs.Values.{t_bool, Value, nothing, type_v}
use Rattle.spec_machine.specs.Program.{fn, node, ExprForm, apply, StmtForm, Program, owns, type_l, var_types, type_of_var}
use Rattle.spec_machine.specs.Machine.{saved, State, Rule, Event, arguments, Step, first, enter, op_value, op_arith, and_first, and_false, and_true, call_none, call_entry, assert_true, assert_false, if_true, if_false, leave_entry}
use Rattle.spec_machine.specs.Fit.{owned, held, Takes, comes, Proper}
use Rattle.spec_machine.proofs.Accepted.{GoodE, GoodS, Accepted}
use Rattle.spec_machine.proofs.Given.{expression_gives}
use Rattle.spec_machine.proofs.Holding.{holds_set, read_type, cleared_is, map_snoc, map_last}
use Rattle.spec_machine.proofs.Operators.{result_type}
use Rattle.spec_machine.proofs.Moves.{flows_mono, moves, turns_to, seen, unrolled, passes_on, store_is, enters, entry_known}

-- what two branches share is in each
in_first : (a b : Set) → Sub (both a b) a
unfolding both
in_first a b x h = and_left (a x) _ h

in_second : (a b : Set) → Sub (both a b) b
unfolding both
in_second a b x h = and_right (a x) _ h

-- what a decl leaves, its statement leaves when the variable is cleared
decl_leaves : (s : Statement) (η : List Value) (x : ℕ) → Sub (without (leaves s (without (held η) x)) x) (leaves s (held (set η x nothing)))
unfolding without
decl_leaves s η x y h = rw (← cleared_is η x) (and_left _ _ h)

module _ {P : Program} (c : Accepted P) where
  pub keep : {r : Rule} {v : Event} {s t : State} → Step P r v s t → Proper P s → Proper P t
  unfolding leaves returns
  keep (first {m} {f} {h} {n} {ns} {η} {K} e) o =
      let g : GoodE P f (apply h (n ∷ ns)) = rw e at (c.exprs f m o.frames.0) in
      let k : Takes P f (type_l P f (apply h (n ∷ ns))) K = rw e at o.frames.2 in
      let r = c.reads_apply f m h (n ∷ ns) (held η) o.frames.0 e o.flows.0 in
      turns_to o n g.0.0 (g.1, g.0.1, expression_gives P f h (n ∷ ns) K k, g.2) r.0 (r.1, o.flows.1) o.returns
  keep (Step.next {f} {h} {v} {vs} {n} {ns}) o =
      turns_to o n o.frames.1.0 (o.frames.0 ∙ sym (map_snoc type_v vs v _), o.frames.1.1, o.frames.2, o.frames.3) o.flows.0.0
      (o.flows.0.1, o.flows.1) o.returns
  keep (op_value {o = p} {a} {b} {v} e) o = moves o (rw (result_type P.edition p a b v e) o.frames.2) o.flows.1 o.returns
  keep (op_arith e) o = tt
  keep (and_first {m} {n} {l} {f} {η} {K} e) o =
      let g : GoodE P f (ExprForm.and n l) = rw e at (c.exprs f m o.frames.0) in
      let k : Takes P f t_bool K = rw e at o.frames.2 in
      let r = c.reads_and f m n l (held η) o.frames.0 e o.flows.0 in
      turns_to o n g.0.0 (g.0.1, g.1.0, g.1.1, k) r.0 (r.1, o.flows.1) o.returns
  keep and_false o = moves o o.frames.3 o.flows.1 o.returns
  keep (and_true {l}) o = turns_to o l o.frames.1 (rw o.frames.2 o.frames.3) o.flows.0 o.flows.1 o.returns
  keep (Step.var {m} {x} {f} {η} {K} e) o =
      let k : Takes P f (type_of_var (P.fun f) x) K = rw e at o.frames.2 in
      let r = c.reads_var f m x (held η) o.frames.0 e o.flows.0 in
      moves o (rw (read_type η (var_types (P.fun f)) x o.holds r) k) o.flows.1 o.returns
  keep (Step.seq {r} {a} {b} {f} {η} {K} e) o =
      let g : GoodS P f (StmtForm.seq a b) = rw e at (c.stmts f r o.frames.0) in
      let w = rw (seen P c f r e) at o.flows in
      let k = (ok_seq (held η) (P.stmt f a) (P.stmt f b)).0 w.0 in
      moves o (g.0, (g.1, o.frames.1)) (k.0, (k.1, w.1))
      (sym (or_assoc (returns (P.stmt f a)) (returns (P.stmt f b)) (comes P f K)) ∙ (rw (seen P c f r e) at o.returns))
  keep (Step.nop {r} {s} {f} e) o =
      let w = rw (seen P c f r e) at o.flows in
      moves o o.frames.1 w.1 (rw (seen P c f r e) at o.returns)
  keep (Step.assign {r} {x} {n} {f} {η} e) o =
      let g : GoodS P f (StmtForm.assign x n) = rw e at (c.stmts f r o.frames.0) in
      let w = rw (seen P c f r e) at o.flows in
      turns_to o n g.0 (g.1, g.2, o.frames.1) ((ok_assign (held η) x (P.reads f n)).0 w.0) w.1 (rw (seen P c f r e) at o.returns)
  keep (Step.store {v} {x} {f} {η} {K} {A} {α}) o =
      passes_on P c α f (set η x v) K A o.entry o.callers o.known (holds_set η (var_types (P.fun f)) x v (inr o.frames.0) o.holds) o.frames.2
      (rw (← store_is P c o) o.flows) o.returns
  keep (Step.decl {r} {a} {x} {f} {η} {K} e) o =
      let g : GoodS P f (StmtForm.decl x a) = rw e at (c.stmts f r o.frames.0) in
      let w = rw (seen P c f r e) at o.flows in
      let s : Statement = P.stmt f a in
      record {
        entry = o.entry;
        callers = o.callers;
        known = o.known;
        holds = holds_set η (var_types (P.fun f)) x nothing (inl refl) o.holds;
        frames = (g.1, o.frames.1);
        flows = (rw (← cleared_is η x) ((ok_decl (held η) x s).0 w.0), flows_mono P f K _ _ (decl_leaves s η x) w.1);
        returns = rw (seen P c f r e) at o.returns;
      }
  keep (Step.assert {r} {n} {f} {η} e) o =
      let g : GoodS P f (StmtForm.assert n) = rw e at (c.stmts f r o.frames.0) in
      let w = rw (seen P c f r e) at o.flows in
      turns_to o n g.0 (g.1, o.frames.1) ((ok_assert (held η) (P.reads f n)).0 w.0) w.1 (rw (seen P c f r e) at o.returns)
  keep (assert_true {f} {η} {K} {A} {α}) o = passes_on P c α f η K A o.entry o.callers o.known o.holds o.frames.1 o.flows o.returns
  keep assert_false o = tt
  keep (Step.if {r} {a} {b} {n} {f} {η} e) o =
      let g : GoodS P f (StmtForm.if n a b) = rw e at (c.stmts f r o.frames.0) in
      let w = rw (seen P c f r e) at o.flows in
      let k = (ok_if (held η) (P.reads f n) (P.stmt f a) (P.stmt f b)).0 w.0 in
      turns_to o n g.0 (g.1, g.2, g.3, o.frames.1) k.0 (k.1, k.2, w.1) (rw (seen P c f r e) at o.returns)
  keep (if_true {a} {b} {f} {η} {K}) o =
      moves o (o.frames.1, o.frames.3) (o.flows.0, flows_mono P f K _ _ (in_first _ _) o.flows.2)
      (either_mono (returns (P.stmt f a) && returns (P.stmt f b)) (returns (P.stmt f a)) (comes P f K) (comes P f K) (and_left _ _) (λ q. q) o.returns)
  keep (if_false {a} {b} {f} {η} {K}) o =
      moves o (o.frames.2, o.frames.3) (o.flows.1, flows_mono P f K _ _ (in_second _ _) o.flows.2)
      (either_mono (returns (P.stmt f a) && returns (P.stmt f b)) (returns (P.stmt f b)) (comes P f K) (comes P f K) (and_right (returns (P.stmt f a)) _) (λ q. q) o.returns)
  keep (Step.while {r} {a} {w} {n} {f} {η} {K} e) o =
      let q = c.see_while f w n a r e in
      let u = c.scopes f r o.frames.0 in
      let k : Scope u.0 (While (P.reads f n) (P.stmt f a)) = rw (seen P c f r e) at u.1 in
      let d = rw (seen P c f r e) at o.flows in
      let i : owned P f (node w) ≡ true = rw q.0 at o.frames.0.0 in
      let b : comes P f K ≡ true = rw (seen P c f r e) at o.returns in
      moves o ((and_left (owns P f w) _ i, rw q.1), o.frames.1)
      (rw (unrolled P c f w n r a e)
      (while_ok (P.reads f n) (P.stmt f a) (held η) u.0 k d.0, flows_mono P f K _ _ (while_leaves (P.reads f n) (P.stmt f a) (held η)) d.1))
      (rw (unrolled P c f w n r a e, false_right) b)
  keep (Step.expr {r} {n} {f} {η} e) o =
      let g : GoodS P f (StmtForm.expr n) = rw e at (c.stmts f r o.frames.0) in
      let w = rw (seen P c f r e) at o.flows in
      turns_to o n g o.frames.1 ((ok_expr (held η) (P.reads f n)).0 w.0) w.1 (rw (seen P c f r e) at o.returns)
  keep (Step.discard {v} {f} {η} {K} {A} {α}) o = passes_on P c α f η K A o.entry o.callers o.known o.holds o.frames o.flows o.returns
  keep (enter {v} {vs} {g} {f} {η} {K} {A} {α}) o =
      enters P c α g (vs ++ (v ∷ [])) (saved f η K ∷ A) (o.frames.0 ∙ sym (map_last type_v vs v)) o.entry
      (o.holds, o.frames.2, o.flows.1, o.returns, o.callers, o.known) o.frames.3
  keep (call_none {m} {g} {f} {η} {K} {A} {α} e) o =
      let k : Takes P f (P.fun g).result K = rw e at o.frames.2 in
      let t : GoodE P f (apply (fn g) []) = rw e at (c.exprs f m o.frames.0) in
      enters P c α g [] (saved f η K ∷ A) t.1 o.entry (o.holds, k, o.flows.1, o.returns, o.callers, o.known) t.2
  keep (call_entry {o = a} {α = α}) o = enters P c α α.entry (arguments a) [] o.1 o.0 refl (entry_known P c o.0)
  keep (Step.return {r} {n} {f} {η} e) o =
      let g : GoodS P f (StmtForm.return n) = rw e at (c.stmts f r o.frames.0) in
      let w = rw (seen P c f r e) at o.flows in
      turns_to o n g.0 (g.1, o.frames.1) ((ok_return (held η) (P.reads f n)).0 w.0) w.1 refl
  keep Step.leave o =
      let k = o.callers in
      record { entry = o.entry; callers = k.4; known = k.5; holds = k.0; frames = rw o.frames.0 k.1; flows = k.2; returns = k.3 }
  keep leave_entry o = o.entry
  keep Step.value o = tt
