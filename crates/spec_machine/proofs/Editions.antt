-- A step asks for the edition where it shifts by a count below 0 or above 31, and nowhere else.
use mathlib.Core.Path.{◌≡◌, refl, ap}
use mathlib.Core.Bool.{Bool, true, false}
use mathlib.Core.List.{List, [], ◌∷◌}
use mathlib.Core.Logic.{inl, inr}
use lib.Dec.{eqb-suc-zero}
use Prim.Native.Nat.{ℕ, suc, ◌^◌, ◌<◌}
use Rattle.arith.specs.Operators.{shl_of, shr_of, no_shift, results, applied}
use Rattle.arith.proofs.Shifts.{Shift, shift_raises, applied-same}
use Rattle.spec_machine.specs.Values.{Value, nothing, int, truth, result_value, result}
use Rattle.spec_machine.specs.Program.{Operation, op, fn, ExprForm, const, apply, StmtForm, Program}
use Rattle.spec_machine.specs.Machine.{arith, Frame, gather, and, wait, branch, check, val, eval, exec, Saved, RunEnv, State, exception, calling, returned, running, Rule}
use Rattle.spec_machine.specs.Next.{goes, settle, op_next, give, opens, runs, next}
use Rattle.spec_machine.specs.Fit.{IsWord, InWords}

-- the same program in another edition
abbrev pub in_edition : ℕ → Program → Program
in_edition e P = record { edition = e; funs = P.funs; fun = P.fun; nodes = P.nodes; look = P.look; see = P.see; reads = P.reads; stmt = P.stmt }

-- the next step is a shift by a count below 0 or above 31
pub data ShiftsOutside : State → Type 0 where
  shifts_outside : {o a b f : ℕ} {α : RunEnv} {η : List Value} {K : List Frame} {A : List Saved} → Shift o → no_shift b ≡ true
      → ShiftsOutside (running (val (int b)) α f η (gather (op o) (int a ∷ []) [] ∷ K) A)

module _ (P : Program) (e : ℕ) (α : RunEnv) (f : ℕ) (η : List Value) (K : List Frame) (A : List Saved) where
  result_same : (o a b : ℕ) → b < 2 ^ 32 → (Shift o → no_shift b ≡ false) → result e o a b ≡ result P.edition o a b
  unfolding result
  result_same o a b h k = ap result_value (applied-same e P.edition a b h o k)

  operator_same : (o : ℕ) (vs : List Value) (v : Value) → IsWord α v
      → (ShiftsOutside (running (val v) α f η (gather (op o) vs [] ∷ K) A) → ⊥) → op_next e o vs v α f η K A ≡ op_next P.edition o vs v α f η K A
  operator_same o [] v w n = refl
  operator_same o (nothing ∷ vs) v w n = refl
  operator_same o (truth t ∷ vs) v w n = refl
  operator_same o (int a ∷ (u ∷ vs)) v w n = refl
  operator_same o (int a ∷ []) nothing w n = refl
  operator_same o (int a ∷ []) (truth t) w n = refl
  operator_same o (int a ∷ []) (int b) w n = ap (settle α f η K A) (result_same o a b w (λ s. within s (no_shift b) refl))
    where
      within : Shift o → (t : Bool) → no_shift b ≡ t → t ≡ false
      within s true q = absurd (n (shifts_outside s q))
      within s false q = refl

  opens_same : (x : ExprForm) → opens (in_edition e P) x α f η K A ≡ opens P x α f η K A
  opens_same (const v) = refl
  opens_same (ExprForm.var x) = refl
  opens_same (apply h (n ∷ ns)) = refl
  opens_same (apply (op o) []) = refl
  opens_same (apply (fn g) []) = refl
  opens_same (ExprForm.and n l) = refl
  opens_same ExprForm.stray = refl

  runs_same : (x : StmtForm) → runs (in_edition e P) x α f η K A ≡ runs P x α f η K A
  runs_same StmtForm.nop = refl
  runs_same (StmtForm.seq a b) = refl
  runs_same (StmtForm.assign x n) = refl
  runs_same (StmtForm.decl x a) = refl
  runs_same (StmtForm.if n a b) = refl
  runs_same (StmtForm.while w n a) = refl
  runs_same (StmtForm.return n) = refl
  runs_same (StmtForm.assert n) = refl
  runs_same (StmtForm.expr n) = refl
  runs_same StmtForm.stray = refl

module _ (P : Program) (e : ℕ) where
  give_same : (v : Value) (α : RunEnv) (f : ℕ) (η : List Value) (K : List Frame) (A : List Saved) → IsWord α v
      → (ShiftsOutside (running (val v) α f η K A) → ⊥) → give (in_edition e P) v α f η K A ≡ give P v α f η K A
  give_same v α f η [] A w n = refl
  give_same v α f η (gather (op o) vs [] ∷ K) A w n = operator_same P e α f η K A o vs v w n
  give_same v α f η (gather (fn g) vs [] ∷ K) A w n = refl
  give_same v α f η (gather h vs (m ∷ ns) ∷ K) A w n = refl
  give_same v α f η (and l ∷ K) A w n = refl
  give_same v α f η (wait r ∷ K) A w n = refl
  give_same v α f η (Frame.store x ∷ K) A w n = refl
  give_same v α f η (branch a b ∷ K) A w n = refl
  give_same v α f η (Frame.leave ∷ K) A w n = refl
  give_same v α f η (check ∷ K) A w n = refl
  give_same v α f η (Frame.discard ∷ K) A w n = refl

  -- any other step is the same in every edition
  pub editions_agree : (s : State) → InWords s → (ShiftsOutside s → ⊥) → next (in_edition e P) s ≡ next P s
  editions_agree (State.value c) w n = refl
  editions_agree (exception x) w n = refl
  editions_agree (calling α a) w n = refl
  editions_agree (returned α c) w n = refl
  editions_agree (running (val v) α f η K A) w n = give_same v α f η K A w.0 n
  editions_agree (running (eval m) α f η K A) w n = opens_same P e α f η K A (P.look f m)
  editions_agree (running (exec r) α f η K A) w n = runs_same P e α f η K A (P.see f r)

  -- this one raises arith in every edition but 0
  pub editions_part : (s : State) → ShiftsOutside s → next (in_edition (suc e) P) s ≡ goes Rule.op_arith (exception arith)
  unfolding result applied results
  editions_part s (shifts_outside {a = a} {b = b} (inl q) k) =
      rw (q, ← shift_raises (suc e) b (shl_of a) (rw (eqb-suc-zero e) k))
  editions_part s (shifts_outside {a = a} {b = b} (inr q) k) =
      rw (q, ← shift_raises (suc e) b (shr_of a) (rw (eqb-suc-zero e) k))
