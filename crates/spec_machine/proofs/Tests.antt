-- The test of fitness is true of the fit states, and of no other.
use Rattle.std.specs.Prelude.{Some, Option, None}
use mathlib.Core.Path.{◌≡◌, refl}
use mathlib.Core.Logic.{inl, inr, ⊎_elim}
use mathlib.Core.List.{List, [], ◌∷◌}
use Prim.Native.Nat.{ℕ, ◌+◌, ◌^◌}
use native.Mathlib.Omega.{arith}
use lib.ListN.{length}
use Rattle.varset.specs.Sets.{Set, with, both}
use Rattle.records.specs.Search.{At, clear}
use Rattle.records.specs.declared.Found.{Found}
use Rattle.spec_language.specs.Flow.{leaves, missing, lacks}
use Rattle.spec_machine.specs.Values.{Ty, t_int, t_bool, Value, nothing, int, truth, type_v}
use Rattle.spec_machine.specs.Program.{Operation, op, fn, Ref, Program, type_n, var_types, type_of_var, gives}
use Rattle.spec_machine.specs.Machine.{Frame, gather, and, wait, branch, check, Control, val, eval, exec, Saved, saved, RunEnv, State, exception, calling, returned, running, arguments}
use Rattle.spec_machine.specs.Fit.{is_const, IsExpr, IsStmt, AllExpr, KnownOperation, held, comes, comes_from, HoldsTyped, AllHoldTyped, TakesNone, Takes, ControlOver, ReadsNodes, Flows, FlowsFrom, Callers, Proper, WithinLimits, IsWord, AllWords, FramesInWords, ControlInWord, SavedInWords, InWords, Fit, caller_limit, frame_limit, saved_frame_count}
use Rattle.spec_machine.specs.Run.{within_limits}
use Rattle.spec_machine.specs.Test.{are_ty, expr_in, stmt_in, exprs_in, known_operation, holds_typed, all_hold_typed, takes_none, takes, control_over, reads_nodes, flows, flows_from, callers, is_word, all_words, frames_in_words, control_in_word, saved_in_words, in_words, proper, fit}
use Rattle.spec_machine.proofs.Says.{Says, yes_unit, never, no_bottom, itself, negated, two, three, four, six, below, at_most, same}
use Rattle.spec_machine.proofs.Given.{gives_says}

pub types_say : (ts us : List Ty) → Says (are_ty ts us) (ts ≡ us)
types_say [] [] = record { so = λ e. refl; if = λ q. refl }
types_say [] (u ∷ us) = never (λ q. let z : ◌≡◌ {A = ℕ} 0 1 = cc in omega arith)
types_say (t ∷ ts) [] = never (λ q. let z : ◌≡◌ {A = ℕ} 0 1 = cc in omega arith)
types_say (t ∷ ts) (u ∷ us) =
    let r = two (same t u) (types_say ts us) in
    record { so = λ e. let p = r.so e in rw (p.0, p.1); if = λ q. r.if (cc, cc) }

-- a search is clear where it found nothing
pub clear_says : (found : Option Found) → Says (clear found) (found ≡ None)
clear_says (Some found) = never (λ q. let z : ◌≡◌ {A = ℕ} 0 1 = cc in omega arith)
clear_says None = record { so = λ e. refl; if = λ q. refl }

pub hold_says : (v : Value) (t : Ty) → Says (holds_typed v t) (HoldsTyped v t)
hold_says nothing t = record { so = λ e. inl refl; if = λ h. refl }
hold_says (int n) t = record { so = λ e. inr ((same t_int t).so e); if = λ h. ⊎_elim (λ q. let z : ◌≡◌ {A = ℕ} 0 1 = cc in absurd (omega arith)) (λ q. (same t_int t).if q) h }
hold_says (truth b) t = record { so = λ e. inr ((same t_bool t).so e); if = λ h. ⊎_elim (λ q. let z : ◌≡◌ {A = ℕ} 0 1 = cc in absurd (omega arith)) (λ q. (same t_bool t).if q) h }

pub holds_says : (vs : List Value) (ts : List Ty) → Says (all_hold_typed vs ts) (AllHoldTyped vs ts)
holds_says [] [] = yes_unit
holds_says [] (t ∷ ts) = no_bottom
holds_says (v ∷ vs) [] = no_bottom
holds_says (v ∷ vs) (t ∷ ts) = two (hold_says v t) (holds_says vs ts)

module _ (P : Program) where
  expr_says : (f n : ℕ) → Says (expr_in P f n) (IsExpr P f n)
  expr_says f n = two (itself _) (itself _)

  stmt_says : (f : ℕ) (r : Ref) → Says (stmt_in P f r) (IsStmt P f r)
  stmt_says f r = two (itself _) (itself _)

  head_says : (h : Operation) → Says (known_operation P h) (KnownOperation P h)
  head_says (op o) = below o 16
  head_says (fn g) = below g P.funs

  exprs_says : (f : ℕ) (ns : List ℕ) → Says (exprs_in P f ns) (AllExpr P f ns)
  exprs_says f [] = yes_unit
  exprs_says f (n ∷ ns) = two (expr_says f n) (exprs_says f ns)

  none_says : (f : ℕ) (K : List Frame) → Says (takes_none P f K) (TakesNone P f K)
  none_says f [] = yes_unit
  none_says f (gather h vs ns ∷ K) = no_bottom
  none_says f (and n ∷ K) = no_bottom
  none_says f (wait r ∷ K) = two (stmt_says f r) (none_says f K)
  none_says f (Frame.store x ∷ K) = no_bottom
  none_says f (branch a b ∷ K) = no_bottom
  none_says f (Frame.leave ∷ K) = no_bottom
  none_says f (check ∷ K) = no_bottom
  none_says f (Frame.discard ∷ K) = no_bottom

  pub takes_says : (f : ℕ) (t : Ty) (K : List Frame) → Says (takes P f t K) (Takes P f t K)
  takes_says f t [] = no_bottom
  takes_says f t (gather h vs ns ∷ K) = four (types_say _ _) (exprs_says f ns) (gives_says (gives P h) (λ u. takes_says f u K) (none_says f K)) (head_says h)
  takes_says f t (and n ∷ K) = four (same t t_bool) (expr_says f n) (same (type_n P f n) t_bool) (takes_says f t_bool K)
  takes_says f t (wait r ∷ K) = no_bottom
  takes_says f t (Frame.store x ∷ K) = three (same t (type_of_var (P.fun f) x)) (below _ _) (none_says f K)
  takes_says f t (branch a b ∷ K) = four (same t t_bool) (stmt_says f a) (stmt_says f b) (none_says f K)
  takes_says f t (Frame.leave ∷ K) = two (same t (P.fun f).result) (none_says f K)
  takes_says f t (check ∷ K) = two (same t t_bool) (none_says f K)
  takes_says f t (Frame.discard ∷ K) = none_says f K

  given_says : (f : ℕ) (c : Control) (K : List Frame) → Says (control_over P f c K) (ControlOver P f c K)
  given_says f (val v) K = takes_says f (type_v v) K
  given_says f (eval n) K = three (expr_says f n) (negated (is_const (P.look f n))) (takes_says f (type_n P f n) K)
  given_says f (exec r) K = two (stmt_says f r) (none_says f K)

  nodes_say : (f : ℕ) (ns : List ℕ) (d : Set) → Says (reads_nodes P f ns d) (ReadsNodes P f ns d)
  nodes_say f [] d = yes_unit
  nodes_say f (n ∷ ns) d = two (clear_says (missing (P.reads f n) d)) (nodes_say f ns d)

  pub flows_say : (f : ℕ) (K : List Frame) (d : Set) → Says (flows P f K d) (Flows P f K d)
  flows_say f [] d = yes_unit
  flows_say f (gather h vs ns ∷ K) d = two (nodes_say f ns d) (flows_say f K d)
  flows_say f (and n ∷ K) d = two (clear_says (missing (P.reads f n) d)) (flows_say f K d)
  flows_say f (wait r ∷ K) d = two (clear_says (lacks (P.stmt f r) d)) (flows_say f K (leaves (P.stmt f r) d))
  flows_say f (Frame.store x ∷ K) d = flows_say f K (with d x)
  flows_say f (branch a b ∷ K) d = three (clear_says (lacks (P.stmt f a) d)) (clear_says (lacks (P.stmt f b) d)) (flows_say f K (both (leaves (P.stmt f a) d) (leaves (P.stmt f b) d)))
  flows_say f (Frame.leave ∷ K) d = flows_say f K _
  flows_say f (check ∷ K) d = flows_say f K d
  flows_say f (Frame.discard ∷ K) d = flows_say f K d

  from_says : (f : ℕ) (c : Control) (K : List Frame) (d : Set) → Says (flows_from P f c K d) (FlowsFrom P f c K d)
  from_says f (val v) K d = flows_say f K d
  from_says f (eval n) K d = two (clear_says (missing (P.reads f n) d)) (flows_say f K d)
  from_says f (exec r) K d = two (clear_says (lacks (P.stmt f r) d)) (flows_say f K (leaves (P.stmt f r) d))

  callers_say : (e f : ℕ) (A : List Saved) → Says (callers P e f A) (Callers P e f A)
  callers_say e f [] = same f e
  callers_say e f (saved g θ L ∷ A) = six (holds_says θ (var_types (P.fun g))) (takes_says g (P.fun f).result L) (flows_say g L (held θ)) (itself (comes P g L)) (callers_say e g A) (below g P.funs)

  pub proper_says : (s : State) → Says (proper P s) (Proper P s)
  proper_says (State.value c) = yes_unit
  proper_says (exception x) = yes_unit
  proper_says (calling α o) = two (same α.entry 0) (types_say _ _)
  proper_says (returned α c) = same α.entry 0
  proper_says (running c α f η K A) =
      let r = two (same α.entry 0) (six (callers_say α.entry f A) (below f P.funs) (holds_says η (var_types (P.fun f))) (given_says f c K) (from_says f c K (held η)) (itself (comes_from P f c K))) in
      record {
        so = λ e. let n = r.so e in let u = n.1 in record { entry = n.0; callers = u.0; known = u.1; holds = u.2; frames = u.3; flows = u.4; returns = u.5 };
        if = λ p. r.if (p.entry, (p.callers, p.known, p.holds, p.frames, p.flows, p.returns));
      }

pub limits_say : (s : State) → Says (within_limits s) (WithinLimits s)
limits_say (State.value c) = yes_unit
limits_say (exception x) = yes_unit
limits_say (calling α o) = yes_unit
limits_say (returned α c) = yes_unit
limits_say (running c α f η K A) = two (at_most (1 + length A) caller_limit) (at_most (length K + saved_frame_count A) frame_limit)

module _ (α : RunEnv) where
  word_says : (v : Value) → Says (is_word α v) (IsWord α v)
  word_says nothing = yes_unit
  word_says (int n) = below n (2 ^ 32)
  word_says (truth b) = yes_unit

  values_say : (vs : List Value) → Says (all_words α vs) (AllWords α vs)
  values_say [] = yes_unit
  values_say (v ∷ vs) = two (word_says v) (values_say vs)

  frames_say : (K : List Frame) → Says (frames_in_words α K) (FramesInWords α K)
  frames_say [] = yes_unit
  frames_say (gather h vs ns ∷ K) = two (values_say vs) (frames_say K)
  frames_say (and n ∷ K) = frames_say K
  frames_say (wait r ∷ K) = frames_say K
  frames_say (Frame.store x ∷ K) = frames_say K
  frames_say (branch a b ∷ K) = frames_say K
  frames_say (Frame.leave ∷ K) = frames_say K
  frames_say (check ∷ K) = frames_say K
  frames_say (Frame.discard ∷ K) = frames_say K

  control_says : (c : Control) → Says (control_in_word α c) (ControlInWord α c)
  control_says (val v) = word_says v
  control_says (eval n) = yes_unit
  control_says (exec r) = yes_unit

  saved_say : (A : List Saved) → Says (saved_in_words α A) (SavedInWords α A)
  saved_say [] = yes_unit
  saved_say (saved g θ L ∷ A) = three (values_say θ) (frames_say L) (saved_say A)

pub words_say : (s : State) → Says (in_words s) (InWords s)
words_say (State.value c) = below c (2 ^ 32)
words_say (exception x) = yes_unit
words_say (calling α o) = values_say α (arguments o)
words_say (returned α c) = below c (2 ^ 32)
words_say (running c α f η K A) = four (control_says α c) (values_say α η) (frames_say α K) (saved_say α A)

pub fit_says : (P : Program) (s : State) → Says (fit P s) (Fit P s)
fit_says P s =
    let r = three (words_say s) (limits_say s) (proper_says P s) in
    record {
      so = λ e. let u = r.so e in record { words = u.0; within = u.1; proper = u.2 };
      if = λ u. r.if (u.words, u.within, u.proper);
    }
