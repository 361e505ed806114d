-- Where a fit state stands in the file.
use mathlib.Core.Path.{◌≡◌, ap, ◌∙◌}
use mathlib.Core.Bool.{Bool, true, false, not, false≢true, true≢false}
use mathlib.Core.List.{List, [], ◌∷◌, ◌++◌}
use Prim.Native.Nat.{ℕ, ◌+◌, ◌*◌, ◌-◌, ◌≤◌, ◌<◌}
use native.Mathlib.Omega.{arith}
use lib.Dec.{ltb}
use lib.ListN.{length, take, drop}
use borrow.Author.Tests.{ltb-true, not-true}
use Rattle.records.specs.Fields.{functions, count_of, kind_at}
use Rattle.records.specs.Parts.{part_of}
use Rattle.records.proofs.Bools.{and_left, and_right}
use Rattle.spec_language.specs.Known.{names_variable, Known}
use Rattle.spec_language.specs.Sorts.{is_expression}
use Rattle.spec_language.specs.KindLists.{is_constant, is_statement}
use Rattle.spec_language.specs.Scopes.{uses_variable}
use Rattle.spec_language.specs.Flow.{returns}
use Rattle.spec_language.proofs.Accept.{accepted_is, nodes_known, calls_known}
use Rattle.spec_machine.specs.Values.{Value}
use Rattle.spec_machine.specs.Program.{Ref, node, if_of, seq_of}
use Rattle.spec_machine.specs.Machine.{Frame, Control, val, eval, exec, Saved, RunEnv, running}
use Rattle.spec_machine.specs.Fit.{Fit, is_expr, is_const, is_stmt, is_nop}
use Rattle.spec_machine.specs.File.{look_at, form_at, if_form, seq_form, see_at, stmt_at, program_of}
use Rattle.spec_machine.proofs.Levels.{by_look, by_form}
use Rattle.spec_machine.specs.Next.{give, opens, runs, next}
use Rattle.spec_image.specs.Core.{core}
use Rattle.state_words.specs.declared.Control as code
use Rattle.state_words.specs.declared.Control.TheVariants as control
use Rattle.state_words.specs.declared.Value as code-value
use Rattle.state_words.specs.declared.Value.TheVariants as value
use Rattle.spec_image.specs.Decode.{ref_of}
use Rattle.state_words.specs.Meaning.{value_is, control_is}
use Rattle.run_rules.specs.declared.Registers.{Registers}
use Rattle.run_rules.specs.declared.Stepped.{Stepped}
use Rattle.run_rules.specs.StepsTo.{Rest, Describes, Bounds}
use Rattle.records.proofs.StartTables.{part_cut}
use Rattle.run_step.specs.StepsBy.{Node, Executes, AtFitState, StepsBy}
use Rattle.run_step.proofs.GiveNeeds.{limited, part_inside}

-- the kinds that are evaluated, and those that are executed
evaluated : (t : List ℕ) (i : ℕ) → is_expr (look_at t i) ≡ true → is_const (look_at t i) ≡ false → (is_expression (kind_at t i) ≡ true) × (is_constant (kind_at t i) ≡ false)
unfolding is_expression
evaluated t i =
    by_look t i (λ x. is_expr x ≡ true → is_const x ≡ false → (is_expression (kind_at t i) ≡ true) × (is_constant (kind_at t i) ≡ false))
    (λ e a b. absurd (true≢false b)) (λ e a b. absurd (true≢false b))
    (λ e a b. (rw e, rw e)) (λ e a b. (rw e, rw e)) (λ e a b. (rw e, rw e)) (λ e a b. (rw e, rw e))
    (λ e a b. absurd (true≢false b)) (λ n a b. absurd (false≢true a))

executed : (t : List ℕ) (i : ℕ) → is_nop (form_at t i) ≡ false → is_stmt (form_at t i) ≡ true → (0 < i) × (is_statement (kind_at t i) ≡ true)
executed t i =
    by_form t i (λ x. is_nop x ≡ false → is_stmt x ≡ true → (0 < i) × (is_statement (kind_at t i) ≡ true))
    (λ e a b. absurd (true≢false a))
    (λ e p a b. (p, rw e)) (λ e p a b. (p, rw e)) (λ e p a b. (p, rw e)) (λ e p a b. (p, rw e)) (λ e p a b. (p, rw e)) (λ e p a b. (p, rw e)) (λ e p a b. (p, rw e)) (λ e p a b. (p, rw e))
    (λ n z a b. absurd (false≢true b))

loop_if : (t : List ℕ) (w : ℕ) → is_stmt (if_form w (form_at t w)) ≡ true → (0 < w) × (kind_at t w ≡ 11)
unfolding if_form
loop_if t w =
    by_form t w (λ x. is_stmt (if_form w x) ≡ true → (0 < w) × (kind_at t w ≡ 11))
    (λ e b. absurd (false≢true b)) (λ e p b. absurd (false≢true b)) (λ e p b. absurd (false≢true b)) (λ e p b. absurd (false≢true b)) (λ e p b. absurd (false≢true b))
    (λ e p b. (p, e)) (λ e p b. absurd (false≢true b)) (λ e p b. absurd (false≢true b)) (λ e p b. absurd (false≢true b)) (λ n z b. absurd (false≢true b))

loop_seq : (t : List ℕ) (w : ℕ) → is_stmt (seq_form w (form_at t w)) ≡ true → (0 < w) × (kind_at t w ≡ 11)
unfolding seq_form
loop_seq t w =
    by_form t w (λ x. is_stmt (seq_form w x) ≡ true → (0 < w) × (kind_at t w ≡ 11))
    (λ e b. absurd (false≢true b)) (λ e p b. absurd (false≢true b)) (λ e p b. absurd (false≢true b)) (λ e p b. absurd (false≢true b)) (λ e p b. absurd (false≢true b))
    (λ e p b. (p, e)) (λ e p b. absurd (false≢true b)) (λ e p b. absurd (false≢true b)) (λ e p b. absurd (false≢true b)) (λ n z b. absurd (false≢true b))

module _ (s table : List ℕ) (c : Control) (h : Registers) (l : List ℕ) (st : AtFitState s table c h l) where
  pub known : h.function < functions s
  unfolding program_of
  known = st.fit.proper.known

  -- its part, cut out of the file
  pub laid : (h.start + 12 * h.count ≤ length s) × (h.count ≤ 4096)
  laid =
      let t = st.describes in
      let q = st.starts.0 in
      (omega (arith, t.start, t.count, q.fits h.function known), omega (arith, t.count, q.small h.function known))

  pub cut : take (h.start + 12 * h.count - h.start) (drop h.start s) ≡ part_of s h.function
  cut = part_cut s h.function st.describes.start st.describes.count

  pub bounds : 16384 ≤ length l → Bounds h l
  bounds n = let q = limited st.describes st.fit in (n, q.0, q.1)

module _ (s table t : List ℕ) (h : Registers) (l : List ℕ) (part : t ≡ part_of s h.function) where
  inside : (c : Control) (st : AtFitState s table c h l) (i : ℕ) → i < count_of s h.function → (12 * i + 12 ≤ length t) × (i < 4096)
  inside c st i n =
      let k = known s table c h l st in
      (part_inside s table t h.function i st.starts k part n, omega (arith, n, st.starts.0.small h.function k))

  nodes : (c : Control) (st : AtFitState s table c h l) → Known (part_of s h.function) (count_of s h.function)
  nodes c st = nodes_known s (accepted_is s st.passed) h.function (known s table c h l st)

  -- an expression to evaluate
  pub evaluates : (i : ℕ) → AtFitState s table (eval i) h l → Node s t i × (is_expression (kind_at t i) ≡ true) × (is_constant (kind_at t i) ≡ false)
  unfolding program_of names_variable uses_variable
  evaluates i st =
      let g = st.fit.proper.frames in
      let n = ltb-true _ _ g.0.0 in
      let w = inside (eval i) st i n in
      let k = nodes (eval i) st in
      let q = evaluated (part_of s h.function) i g.0.1 g.1 in (
        record {
          inside = w.0;
          few = w.1;
          child = rw part (k.child i n);
          variable = rw part (λ e. k.variable i n (rw e));
          arguments = rw part (k.arguments i n);
          callee = rw part (calls_known s (accepted_is s st.passed) h.function (known s table (eval i) h l st) i n);
        },
        rw part q.0,
        rw part q.1,
      )

  -- a statement to execute
  pub executes : (r : Ref) → AtFitState s table (exec r) h l → Executes t r
  unfolding program_of see_at names_variable uses_variable
  executes (node i) st =
      let g = st.fit.proper.frames.0 in
      let o = and_left (ltb i (count_of s h.function)) (not (is_nop (form_at (part_of s h.function) i))) g.0 in
      let n = ltb-true _ _ o in
      let w = inside (exec (node i)) st i n in
      let q = executed (part_of s h.function) i (not-true _ (and_right (ltb i (count_of s h.function)) (not (is_nop (form_at (part_of s h.function) i))) g.0)) g.1 in
      let k = nodes (exec (node i)) st in
      ((w.0, w.1, q.0), rw part q.1, rw part (λ e. k.variable i n (rw e)))
  executes Ref.nop st = tt
  executes (if_of i) st =
      let g = st.fit.proper.frames.0 in
      let w = inside (exec (if_of i)) st i (ltb-true _ _ g.0) in
      let q = loop_if (part_of s h.function) i g.1 in
      ((w.0, w.1, q.0), rw part q.1)
  executes (seq_of i) st =
      let g = st.fit.proper.frames.0 in
      let w = inside (exec (seq_of i)) st i (ltb-true _ _ g.0) in
      let q = loop_seq (part_of s h.function) i g.1 in
      ((w.0, w.1, q.0), rw part q.1)

-- something waits where nop is executed
pub waiting : (s table : List ℕ) (h : Registers) (l : List ℕ) (r : Ref) → AtFitState s table (exec r) h l → r ≡ Ref.nop → 1 ≤ h.frames
unfolding program_of stmt_at returns
waiting s table h l r st e = go st.frames st.describes (rw e at st.fit)
  where
    go : (K : List Frame) → Describes s h h.function K st.callers → Fit (program_of s) (running (exec Ref.nop) st.environment h.function st.variables K st.callers) → 1 ≤ h.frames
    go [] t f = absurd (false≢true f.proper.returns)
    go (fr ∷ K) t f = omega (arith, t.frames)

-- ---- by the code's control

module _ (c : code.Control) (v : code-value.Value) where
  pub nothing_hand : c ≡ control.Nothing → v ≡ value.Nothing → control_is c ≡ val (value_is v)
  unfolding control_is value_is
  nothing_hand e d = rw (e, d)

  pub int_hand : (n : ℕ) → c ≡ control.Int n → v ≡ value.Int n → control_is c ≡ val (value_is v)
  unfolding control_is value_is
  int_hand n e d = rw (e, d)

  pub truth_hand : (b : Bool) → c ≡ control.Truth b → v ≡ value.Truth b → control_is c ≡ val (value_is v)
  unfolding control_is value_is
  truth_hand b e d = rw (e, d)

module _ (s table : List ℕ) (c : code.Control) (h : Registers) (l : List ℕ) where
  pub at_fit_val : (v : code-value.Value) → control_is c ≡ val (value_is v) → AtFitState s table (control_is c) h l → AtFitState s table (val (value_is v)) h l
  at_fit_val v e st = rw e at st

  pub at_fit_eval : (i : ℕ) → c ≡ control.Eval i → AtFitState s table (control_is c) h l → AtFitState s table (eval i) h l
  unfolding control_is
  at_fit_eval i e st = rw e at st

  pub at_fit_exec : (r : ℕ) → c ≡ control.Exec r → AtFitState s table (control_is c) h l → AtFitState s table (exec (ref_of r)) h l
  unfolding control_is
  at_fit_exec r e st = rw e at st

module _ (s : List ℕ) (r : Stepped) (h : Registers) (l m : List ℕ) (R : Rest) (α : RunEnv) (f : ℕ) (η : List Value) where
  pub val_done : (K : List Frame) (A : List Saved) (c : code.Control) (v : code-value.Value) → control_is c ≡ val (value_is v) → l ≡ core f η K A ++ R α → Describes s h f K A
      → Fit (program_of s) (running (control_is c) α f η K A)
      → ((fr : Frame) (L : List Frame) → l ≡ core f η (fr ∷ L) A ++ R α → Describes s h f (fr ∷ L) A → Fit (program_of s) (running (val (value_is v)) α f η (fr ∷ L) A)
      → StepsBy s r l m R (give (program_of s) (value_is v) α f η (fr ∷ L) A))
      → StepsBy s r l m R (next (program_of s) (running (control_is c) α f η K A))
  val_done [] A c v e i j fit q = absurd (rw e at fit).proper.frames
  val_done (fr ∷ L) A c v e i j fit q = rw e (q fr L i j (rw e at fit))

  module _ (K : List Frame) (A : List Saved) (t : List ℕ) (c : code.Control) where
    pub eval_done : (i : ℕ) → c ≡ control.Eval i → Describes s h f K A → t ≡ part_of s h.function → Fit (program_of s) (running (control_is c) α f η K A)
        → (t ≡ part_of s f → Fit (program_of s) (running (eval i) α f η K A) → StepsBy s r l m R (opens (program_of s) (look_at t i) α f η K A))
        → StepsBy s r l m R (next (program_of s) (running (control_is c) α f η K A))
    unfolding control_is program_of
    eval_done i e j part fit q =
        let p : t ≡ part_of s f = part ∙ ap (part_of s) j.function in
        rw (e, ← p) (q p (rw e at fit))

    pub exec_done : (k : ℕ) → c ≡ control.Exec k → Describes s h f K A → t ≡ part_of s h.function → Fit (program_of s) (running (control_is c) α f η K A)
        → (t ≡ part_of s f → Fit (program_of s) (running (exec (ref_of k)) α f η K A) → StepsBy s r l m R (runs (program_of s) (see_at t (ref_of k)) α f η K A))
        → StepsBy s r l m R (next (program_of s) (running (control_is c) α f η K A))
    unfolding control_is program_of
    exec_done k e j part fit q =
        let p : t ≡ part_of s f = part ∙ ap (part_of s) j.function in
        rw (e, ← p) (q p (rw e at fit))
