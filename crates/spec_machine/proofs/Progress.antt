-- In a proper state that is not final exactly one rule applies.
use mathlib.Core.Path.{◌≡◌, refl, ◌∙◌}
use mathlib.Core.Logic.{◌↔◌}
use mathlib.Core.Bool.{true, false, false≢true, true≢false}
use mathlib.Core.List.{List, [], ◌∷◌, ◌++◌, map}
use mathlib.Core.Option.{Option, none, some}
use Prim.Native.Nat.{ℕ}
use native.Mathlib.Omega.{arith}
use Rattle.spec_language.specs.Flow.{returns}
use Rattle.spec_machine.specs.Values.{Ty, t_int, t_bool, Value, nothing, int, truth, type_v, result}
use Rattle.spec_machine.specs.Program.{op, fn, Ref, ExprForm, const, apply, StmtForm, Program}
use Rattle.spec_machine.specs.Machine.{Frame, gather, and, wait, branch, check, val, eval, exec, Saved, saved, RunEnv, State, exception, calling, returned, running, Rule, Event, Step, first, enter, op_value, op_arith, and_first, and_false, and_true, call_none, call_entry, assert_true, assert_false, if_true, if_false, leave_entry, main_call}
use Rattle.spec_machine.specs.Next.{goes, next}
use Rattle.spec_machine.specs.Fit.{Running, Proper, Fit}
use Rattle.spec_machine.specs.Run.{Going}
use Rattle.spec_machine.specs.Applies.{Applies, One}
use Rattle.spec_machine.proofs.Accepted.{GoodE, Accepted}
use Rattle.spec_machine.proofs.Moves.{seen, entry_gives}
use Rattle.spec_machine.proofs.One.{sound, one_rule}

by_step : {P : Program} {s t : State} {r : Rule} {v : Event} → Step P r v s t → Applies P s
by_step {P} {s} {t} {r} {v} p = record { rule = r; event = v; state = t; step = p }

-- ---- values by their types

on_truth_lem : (Q : Value → Type 0) → Q (truth true) → Q (truth false) → (v : Value) → type_v v ≡ t_bool → Q v
on_truth_lem Q a b nothing e = absurd (omega arith)
on_truth_lem Q a b (int n) e = absurd (omega arith)
on_truth_lem Q a b (truth true) e = a
on_truth_lem Q a b (truth false) e = b

on_int : (Q : Value → Type 0) → ((n : ℕ) → Q (int n)) → (v : Value) → type_v v ≡ t_int → Q v
on_int Q a nothing e = absurd (omega arith)
on_int Q a (int n) e = a n
on_int Q a (truth b) e = absurd (omega arith)

no_nil : (l : List Ty) (t : Ty) → ◌≡◌ {A = List Ty} [] (l ++ (t ∷ [])) → ⊥
no_nil [] t e = let z : ◌≡◌ {A = ℕ} 0 1 = cc in omega arith
no_nil (u ∷ l) t e = let z : ◌≡◌ {A = ℕ} 0 1 = cc in omega arith

on_ints : (Q : List Value → Value → Type 0) → ((a b : ℕ) → Q (int a ∷ []) (int b)) → (vs : List Value) (v : Value)
    → t_int ∷ (t_int ∷ []) ≡ map type_v vs ++ (type_v v ∷ []) → Q vs v
on_ints Q h [] v e = let z : ◌≡◌ {A = ℕ} 0 1 = cc in absurd (omega arith)
on_ints Q h (u ∷ (w ∷ vs)) v e =
    let q : ◌≡◌ {A = List Ty} [] (map type_v vs ++ (type_v v ∷ [])) = cc in
    absurd (no_nil (map type_v vs) (type_v v) q)
on_ints Q h (u ∷ []) v e =
    let p : type_v u ≡ t_int = cc in
    let q : type_v v ≡ t_int = cc in
    on_int (λ x. Q (x ∷ []) v) (λ a. on_int (Q (int a ∷ [])) (h a) v q) u p

-- ---- progress, by the control

module _ {P : Program} (c : Accepted P) (α : RunEnv) (f : ℕ) (η : List Value) where
  settles : (K : List Frame) (A : List Saved) (o a b : ℕ) → Applies P (running (val (int b)) α f η (gather (op o) (int a ∷ []) [] ∷ K) A)
  settles K A o a b = go (result P.edition o a b) refl
    where
      go : (x : Option Value) → result P.edition o a b ≡ x → Applies P (running (val (int b)) α f η (gather (op o) (int a ∷ []) [] ∷ K) A)
      go none e = by_step (op_arith e)
      go (some v) e = by_step (op_value e)

  gives_on : (v : Value) (K : List Frame) (A : List Saved) → Running P (val v) α f η K A → Applies P (running (val v) α f η K A)
  gives_on v [] A o = absurd o.frames
  gives_on v (gather h vs (n ∷ ns) ∷ K) A o = by_step Step.next
  gives_on v (gather (op p) vs [] ∷ K) A o =
      on_ints (λ us u. Applies P (running (val u) α f η (gather (op p) us [] ∷ K) A)) (settles K A p) vs v o.frames.0
  gives_on v (gather (fn g) vs [] ∷ K) A o = by_step enter
  gives_on v (and l ∷ K) A o = on_truth_lem (λ u. Applies P (running (val u) α f η (and l ∷ K) A)) (by_step and_true) (by_step and_false) v o.frames.0
  gives_on v (wait r ∷ K) A o = absurd o.frames
  gives_on v (Frame.store x ∷ K) A o = by_step Step.store
  gives_on v (branch a b ∷ K) A o = on_truth_lem (λ u. Applies P (running (val u) α f η (branch a b ∷ K) A)) (by_step if_true) (by_step if_false) v o.frames.0
  gives_on v (Frame.leave ∷ K) [] o =
      on_int (λ u. Applies P (running (val u) α f η (Frame.leave ∷ K) [])) (λ n. by_step leave_entry) v (o.frames.0 ∙ rw o.callers (entry_gives P c o.entry))
  gives_on v (Frame.leave ∷ K) (saved g θ L ∷ A) o = by_step Step.leave
  gives_on v (check ∷ K) A o = on_truth_lem (λ u. Applies P (running (val u) α f η (check ∷ K) A)) (by_step assert_true) (by_step assert_false) v o.frames.0
  gives_on v (Frame.discard ∷ K) A o = by_step Step.discard

  opens_on : (n : ℕ) (K : List Frame) (A : List Saved) → Running P (eval n) α f η K A → Applies P (running (eval n) α f η K A)
  opens_on n K A o = go (P.look f n) refl
    where
      go : (l : ExprForm) → P.look f n ≡ l → Applies P (running (eval n) α f η K A)
      go (const v) e = absurd (true≢false (rw e at o.frames.1))
      go (ExprForm.var x) e = by_step (Step.var e)
      go (apply h (m ∷ ms)) e = by_step (first e)
      go (apply (op p) []) e =
          let g : GoodE P f (apply (op p) []) = rw e at (c.exprs f n o.frames.0) in
          let q = g.1 in
          let z : ◌≡◌ {A = ℕ} 0 1 = cc in
          absurd (omega arith)
      go (apply (fn g) []) e = by_step (call_none e)
      go (ExprForm.and l m) e = by_step (and_first e)
      go ExprForm.stray e = absurd (rw e at (c.exprs f n o.frames.0))

  passes_by : (r : Ref) → P.see f r ≡ StmtForm.nop → (K : List Frame) (A : List Saved) → Running P (exec r) α f η K A → Applies P (running (exec r) α f η K A)
  unfolding returns
  passes_by r e [] A o = absurd (false≢true (rw (seen P c f r e) at o.returns))
  passes_by r e (gather h vs ns ∷ K) A o = absurd o.frames.1
  passes_by r e (and l ∷ K) A o = absurd o.frames.1
  passes_by r e (wait s ∷ K) A o = by_step (Step.nop e)
  passes_by r e (Frame.store x ∷ K) A o = absurd o.frames.1
  passes_by r e (branch a b ∷ K) A o = absurd o.frames.1
  passes_by r e (Frame.leave ∷ K) A o = absurd o.frames.1
  passes_by r e (check ∷ K) A o = absurd o.frames.1
  passes_by r e (Frame.discard ∷ K) A o = absurd o.frames.1

  runs_on : (r : Ref) (K : List Frame) (A : List Saved) → Running P (exec r) α f η K A → Applies P (running (exec r) α f η K A)
  runs_on r K A o = go (P.see f r) refl
    where
      go : (s : StmtForm) → P.see f r ≡ s → Applies P (running (exec r) α f η K A)
      go StmtForm.nop e = passes_by r e K A o
      go (StmtForm.seq a b) e = by_step (Step.seq e)
      go (StmtForm.assign x n) e = by_step (Step.assign e)
      go (StmtForm.decl x a) e = by_step (Step.decl e)
      go (StmtForm.if n a b) e = by_step (Step.if e)
      go (StmtForm.while w n a) e = by_step (Step.while e)
      go (StmtForm.return n) e = by_step (Step.return e)
      go (StmtForm.assert n) e = by_step (Step.assert e)
      go (StmtForm.expr n) e = by_step (Step.expr e)
      go StmtForm.stray e = absurd (false≢true (rw e at o.frames.0.1))

-- a state where the function goes on is not final
next_going : (P : Program) (s t : State) (r : Rule) → next P s ≡ goes r t → Going s
next_going P (State.value k) t r e = let z : ◌≡◌ {A = ℕ} 0 1 = cc in absurd (omega arith)
next_going P (exception x) t r e = let z : ◌≡◌ {A = ℕ} 0 1 = cc in absurd (omega arith)
next_going P (calling α o) t r e = tt
next_going P (returned α k) t r e = tt
next_going P (running k α f η K A) t r e = tt

-- ---- the theorems

module _ {P : Program} where
  -- the start is fit
  pub start_fit : Accepted P → Fit P main_call
  start_fit c = record { words = tt; within = tt; proper = (refl, c.main_takes) }

  -- a state that is not final has a rule
  pub progress : Accepted P → (s : State) → Proper P s → Going s → Applies P s
  progress c (State.value k) o g = absurd g
  progress c (exception x) o g = absurd g
  progress c (calling α a) o g = by_step call_entry
  progress c (returned α k) o g = by_step Step.value
  progress c (running (val v) α f η K A) o g = gives_on c α f η v K A o
  progress c (running (eval n) α f η K A) o g = opens_on c α f η n K A o
  progress c (running (exec r) α f η K A) o g = runs_on c α f η r K A o

  pub exactly_one : Accepted P → (s : State) → Proper P s → Going s → One P s
  exactly_one c s o g =
      let p = progress c s o g in
      record { some = p; only = λ q. one_rule q p.step }

  -- a final state has none
  pub final_none : {s t : State} {r : Rule} {v : Event} → ¬ Going s → Step P r v s t → ⊥
  final_none {s} {t} {r} h p = h (next_going P s t r (sound p))

  -- for a proper state the function is the rules
  pub next-is : Accepted P → (s t : State) (r : Rule) → Proper P s → (next P s ≡ goes r t) ↔ ((v : Event) × Step P r v s t)
  next-is c s t r o = (λ e. there e (progress c s o (next_going P s t r e)), λ p. sound p.1)
    where
      there : next P s ≡ goes r t → Applies P s → (v : Event) × Step P r v s t
      there e p =
          let q = sound p.step in
          let a : r ≡ p.rule = cc in
          let b : t ≡ p.state = cc in
          (p.event, rw (a, b) p.step)
