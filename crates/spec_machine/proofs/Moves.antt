-- What a step makes of a proper state, shared by the rules.
use mathlib.Core.Path.{◌≡◌, refl, sym, ap, ◌∙◌, fun_ext}
use mathlib.Core.Bool.{true}
use mathlib.Core.List.{List, [], ◌∷◌, map}
use Prim.Native.Nat.{ℕ}
use lib.ListN.{set}
use Rattle.varset.specs.Sets.{Set, with, both, either, Sub}
use Rattle.records.proofs.Bools.{both_mono, either_mono}
use Rattle.spec_language.specs.Flow.{leaves, returns}
use Rattle.spec_language.proofs.Flows.{reads_mono, ok_nop, ok_mono, leaves_mono, Unrolled}
use Rattle.spec_machine.specs.Values.{Ty, t_int, Value, type_v}
use Rattle.spec_machine.specs.Program.{Ref, if_of, seq_of, grow_f, ExprForm, const, apply, StmtForm, Program, type_n, var_types}
use Rattle.spec_machine.specs.Machine.{Frame, gather, and, wait, branch, check, Control, val, exec, Saved, RunEnv, reach, reach_l, entered}
use Rattle.spec_machine.specs.Fit.{IsExpr, HasFunction, Reads, ReadsNodes, AllHoldTyped, is_some, held, TakesNone, Takes, ControlOver, Flows, FlowsFrom, comes, comes_from, Entry, Callers, Running}
use Rattle.spec_machine.proofs.Accepted.{param_set, Accepted}
use Rattle.spec_machine.proofs.Holding.{holds_length, real_at, real_some, real_left, stored_is, enter_holds, entered_at}

-- ---- with more variables that have a value, nothing is missing that was not before

reads_nodes_mono : (P : Program) (f : ℕ) (ns : List ℕ) (d d' : Set) → Sub d d' → ReadsNodes P f ns d → ReadsNodes P f ns d'
reads_nodes_mono P f [] d d' h r = tt
reads_nodes_mono P f (n ∷ ns) d d' h r = (reads_mono (P.reads f n) d d' h r.0, reads_nodes_mono P f ns d d' h r.1)

with_mono : (d d' : Set) (x : ℕ) → Sub d d' → Sub (with d x) (with d' x)
unfolding with
with_mono d d' x h y = either_mono (d y) (d' y) _ _ (h y) (λ q. q)

added_mono : (d d' e : Set) → Sub d d' → Sub (either d e) (either d' e)
unfolding either
added_mono d d' e h y = either_mono (d y) (d' y) _ _ (h y) (λ q. q)

pub shared_mono : (a a' b b' : Set) → Sub a a' → Sub b b' → Sub (both a b) (both a' b')
unfolding both
shared_mono a a' b b' h k y = both_mono (a y) (a' y) _ _ (h y) (k y)

pub flows_mono : (P : Program) (f : ℕ) (K : List Frame) (d d' : Set) → Sub d d' → Flows P f K d → Flows P f K d'
flows_mono P f [] d d' h o = tt
flows_mono P f (gather g vs ns ∷ K) d d' h o = (reads_nodes_mono P f ns d d' h o.0, flows_mono P f K d d' h o.1)
flows_mono P f (and n ∷ K) d d' h o = (reads_mono (P.reads f n) d d' h o.0, flows_mono P f K d d' h o.1)
flows_mono P f (wait r ∷ K) d d' h o = (ok_mono (P.stmt f r) d d' h o.0, flows_mono P f K _ _ (leaves_mono (P.stmt f r) d d' h) o.1)
flows_mono P f (Frame.store x ∷ K) d d' h o = flows_mono P f K (with d x) (with d' x) (with_mono d d' x h) o
flows_mono P f (branch a b ∷ K) d d' h o = (
  ok_mono (P.stmt f a) d d' h o.0,
  ok_mono (P.stmt f b) d d' h o.1,
  flows_mono P f K _ _ (shared_mono _ _ _ _ (leaves_mono (P.stmt f a) d d' h) (leaves_mono (P.stmt f b) d d' h)) o.2,
)
flows_mono P f (Frame.leave ∷ K) d d' h o = flows_mono P f K _ _ (added_mono d d' _ h) o
flows_mono P f (check ∷ K) d d' h o = flows_mono P f K d d' h o
flows_mono P f (Frame.discard ∷ K) d d' h o = flows_mono P f K d d' h o

-- ---- an expression that is reached: a constant is its value

module _ (P : Program) (f n : ℕ) (K : List Frame) where
  reach_gives : IsExpr P f n → Takes P f (type_n P f n) K → ControlOver P f (reach P f n) K
  reach_gives i k = go (P.look f n) refl
    where
      go : (l : ExprForm) → P.look f n ≡ l → ControlOver P f (reach_l n l) K
      go (const v) e = rw e at k
      go (ExprForm.var x) e = (i, rw e, k)
      go (apply h ns) e = (i, rw e, k)
      go (ExprForm.and l m) e = (i, rw e, k)
      go ExprForm.stray e = (i, rw e, k)

  reach_flows : (d : Set) → Reads P f n d → Flows P f K d → FlowsFrom P f (reach P f n) K d
  reach_flows d r k = go (P.look f n)
    where
      go : (l : ExprForm) → FlowsFrom P f (reach_l n l) K d
      go (const v) = k
      go (ExprForm.var x) = (r, k)
      go (apply h ns) = (r, k)
      go (ExprForm.and l m) = (r, k)
      go ExprForm.stray = (r, k)

  reach_comes : comes P f K ≡ true → comes_from P f (reach P f n) K ≡ true
  reach_comes k = go (P.look f n)
    where
      go : (l : ExprForm) → comes_from P f (reach_l n l) K ≡ true
      go (const v) = k
      go (ExprForm.var x) = k
      go (apply h ns) = k
      go (ExprForm.and l m) = k
      go ExprForm.stray = k

-- ---- the same activation with another control and other frames

module _ {P : Program} {c : Control} {α : RunEnv} {f : ℕ} {η : List Value} {K : List Frame} {A : List Saved} (o : Running P c α f η K A) where
  pub moves : {c' : Control} {K' : List Frame} → ControlOver P f c' K' → FlowsFrom P f c' K' (held η) → comes_from P f c' K' ≡ true → Running P c' α f η K' A
  moves g w r = record { entry = o.entry; callers = o.callers; known = o.known; holds = o.holds; frames = g; flows = w; returns = r }

  -- an expression is reached
  pub turns_to : (n : ℕ) {K' : List Frame} → IsExpr P f n → Takes P f (type_n P f n) K' → Reads P f n (held η) → Flows P f K' (held η) → comes P f K' ≡ true
      → Running P (reach P f n) α f η K' A
  turns_to n {K'} i t d w r = moves (reach_gives P f n K' i t) (reach_flows P f n K' (held η) d w) (reach_comes P f n K' r)

-- ---- what an accepted program gives

module _ (P : Program) (c : Accepted P) where
  -- the tree of a statement whose one level is known
  pub seen : (f : ℕ) (r : Ref) {s : StmtForm} → P.see f r ≡ s → P.stmt f r ≡ grow_f (P.reads f) (P.stmt f) s
  seen f r e = c.stmt_is f r ∙ ap (grow_f (P.reads f) (P.stmt f)) e

  -- the if that a while equals
  pub unrolled : (f w n : ℕ) (r a : Ref) → P.see f r ≡ StmtForm.while w n a → P.stmt f (if_of w) ≡ Unrolled (P.reads f n) (P.stmt f a)
  unrolled f w n r a e =
      let q = c.see_while f w n a r e in
      seen f (if_of w) q.1 ∙ rw (seen f (seq_of w) q.2, seen f Ref.nop (c.see_nop f), ← q.0, seen f r e)

  -- nop over the frames that are left
  pub passes_on : (α : RunEnv) (f : ℕ) (η : List Value) (K : List Frame) (A : List Saved) → Entry P α.entry → Callers P α.entry f A → HasFunction P f → AllHoldTyped η (var_types (P.fun f))
      → TakesNone P f K → Flows P f K (held η) → comes P f K ≡ true → Running P (exec Ref.nop) α f η K A
  unfolding leaves returns
  passes_on α f η K A n k y h t w r =
      let q = seen f Ref.nop (c.see_nop f) in
      record { entry = n; callers = k; known = y; holds = h; frames = ((refl, rw (c.see_nop f)), t); flows = rw q (ok_nop (held η), w); returns = rw q r }

  -- the variables that hold values after a store
  pub store_is : {α : RunEnv} {f x : ℕ} {v : Value} {η : List Value} {K : List Frame} {A : List Saved} → Running P (val v) α f η (Frame.store x ∷ K) A → with (held η) x ≡ held (set η x v)
  store_is {f = f} {x = x} {v = v} {η = η} o =
      let t : List Ty = var_types (P.fun f) in
      let some : is_some v ≡ true = real_some v (λ z. real_at t x (c.real f o.known) o.frames.1 (sym o.frames.0 ∙ z)) in
      stored_is η x v some (rw (holds_length η t o.holds) o.frames.1)

  -- and at entry
  pub entered-is : (g : ℕ) (vs : List Value) → (P.fun g).params ≡ map type_v vs → HasFunction P g → param_set (P.fun g) ≡ held (entered (P.fun g) vs)
  entered-is g vs e y = fun_ext λ x. rw e (entered_at vs (P.fun g).locals (rw e at (real_left (P.fun g).params (P.fun g).locals (c.real g y))) x)

  -- the function that a run was started with is one of the program, and gives an int
  pub entry_known : {e : ℕ} → Entry P e → HasFunction P e
  entry_known n = rw n c.main_known

  pub entry_gives : {e : ℕ} → Entry P e → (P.fun e).result ≡ t_int
  entry_gives n = rw n c.main_gives

  -- a function entered over its callers
  pub enters : (α : RunEnv) (g : ℕ) (vs : List Value) (A : List Saved) → (P.fun g).params ≡ map type_v vs → Entry P α.entry → Callers P α.entry g A → HasFunction P g
      → Running P (exec (P.fun g).body) α g (entered (P.fun g) vs) [] A
  enters α g vs A e n k y =
      record {
        entry = n;
        callers = k;
        known = y;
        holds = rw e (enter_holds vs (P.fun g).locals);
        frames = (c.bodies g y, tt);
        flows = (rw (← entered-is g vs e y) (c.flows g y), tt);
        returns = rw (c.returns g y);
      }
