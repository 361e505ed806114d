-- The states that are fit for the program of an accepted file are narrow.
use mathlib.Core.Path.{◌≡◌, ap, ◌∙◌}
use mathlib.Core.List.{List, [], ◌∷◌, ◌++◌, map}
use Prim.Native.Nat.{ℕ, ◌+◌, ◌≤◌}
use native.Mathlib.Omega.{arith}
use lib.ListN.{length, length-append, length-map}
use Rattle.words.specs.Stacks.{Every}
use Rattle.words.proofs.Stacks.{every_append}
use Rattle.spec_language.specs.Check.{accepted, check_of}
use Rattle.spec_language.specs.Types as types
use Rattle.spec_language.proofs.Accept.{accepted_is, function, parts}
use Rattle.records.specs.Fields.{params_of, vars_of, count_of}
use Rattle.records.specs.Parts.{part_of}
use Rattle.spec_machine.specs.Values.{Ty, Value, type_v}
use Rattle.spec_machine.specs.Program.{Operation, op, fn, Program, type_n, var_types, wants, gives}
use Rattle.spec_machine.specs.Machine.{Frame, gather, and, wait, branch, check, Control, val, eval, exec, Saved, saved, State, exception, calling, returned, running}
use Rattle.spec_machine.specs.Fit.{HasFunction, KnownOperation, AllHoldTyped, TakesNone, Takes, ControlOver, Callers, Proper, Fit}
use Rattle.spec_machine.specs.File.{fun_of, program_of}
use Rattle.spec_machine.proofs.Given.{of_given}
use Rattle.spec_machine.proofs.Holding.{holds_length}
use Rattle.spec_machine.proofs.Operands.{types_length}
use Rattle.spec_machine.proofs.Nodes.{variables}
use Rattle.spec_image.specs.Image.{saved_activations, saved_frames, activations_of, frames_of}
use Rattle.spec_image.specs.Narrow.{NarrowFrame, NarrowActivation, Narrow}

-- at most 128 functions, and in a function at most 4,096 nodes, 8 parameters and 64 variables
pub record Sized (P : Program) : Type 0 where
  pub funs : P.funs ≤ 128
  pub nodes : (f : ℕ) → HasFunction P f → P.nodes f ≤ 4096
  pub params : (f : ℕ) → HasFunction P f → length (P.fun f).params ≤ 8
  pub vars : (f : ℕ) → HasFunction P f → length (var_types (P.fun f)) ≤ 64

module _ (P : Program) (z : Sized P) where
  wants_few : (h : Operation) → KnownOperation P h → length (wants P h) ≤ 8
  wants_few (op o) k = omega arith
  wants_few (fn g) k = z.params g k

  -- an operand is at hand, so at most 7 are in the frame
  pub operands_few : (f : ℕ) (t : Ty) (h : Operation) (vs : List Value) (ns : List ℕ) → KnownOperation P h
      → wants P h ≡ map type_v vs ++ (t ∷ map (type_n P f) ns) → length vs + length ns ≤ 7
  operands_few f t h vs ns k e =
      let n : length (wants P h) ≡ length vs + (1 + length ns)
      = ap length e ∙ simp (length-append, length-map) (omega arith) in
      omega (arith, wants_few h k)

  none_narrow : (f : ℕ) (K : List Frame) → TakesNone P f K → Every NarrowFrame K
  none_narrow f [] h = tt
  none_narrow f (gather g vs ns ∷ K) h = absurd h
  none_narrow f (and n ∷ K) h = absurd h
  none_narrow f (wait r ∷ K) h = (tt, none_narrow f K h.1)
  none_narrow f (Frame.store x ∷ K) h = absurd h
  none_narrow f (branch a b ∷ K) h = absurd h
  none_narrow f (Frame.leave ∷ K) h = absurd h
  none_narrow f (check ∷ K) h = absurd h
  none_narrow f (Frame.discard ∷ K) h = absurd h

  takes_narrow : (f : ℕ) (t : Ty) (K : List Frame) → Takes P f t K → Every NarrowFrame K
  takes_narrow f t [] h = absurd h
  takes_narrow f t (gather g vs ns ∷ K) h = (operands_few f t g vs ns h.3 h.0, of_given (gives P g) (λ u. takes_narrow f u K) (none_narrow f K) h.2)
  takes_narrow f t (and n ∷ K) h = (tt, takes_narrow f _ K h.3)
  takes_narrow f t (wait r ∷ K) h = absurd h
  takes_narrow f t (Frame.store x ∷ K) h = (tt, none_narrow f K h.2)
  takes_narrow f t (branch a b ∷ K) h = (tt, none_narrow f K h.3)
  takes_narrow f t (Frame.leave ∷ K) h = (tt, none_narrow f K h.1)
  takes_narrow f t (check ∷ K) h = (tt, none_narrow f K h.1)
  takes_narrow f t (Frame.discard ∷ K) h = (tt, none_narrow f K h)

  gives_narrow : (f : ℕ) (c : Control) (K : List Frame) → ControlOver P f c K → Every NarrowFrame K
  gives_narrow f (val v) K h = takes_narrow f (type_v v) K h
  gives_narrow f (eval n) K h = takes_narrow f (type_n P f n) K h.2
  gives_narrow f (exec r) K h = none_narrow f K h.1

  pub held_few : (f : ℕ) (η : List Value) → HasFunction P f → AllHoldTyped η (var_types (P.fun f)) → length η ≤ 64
  held_few f η k h = rw (holds_length η (var_types (P.fun f)) h) (z.vars f k)

  callers_narrow : (e f : ℕ) (A : List Saved) → Callers P e f A → Every NarrowFrame (saved_frames A) × Every NarrowActivation (saved_activations A)
  unfolding saved_frames saved_activations
  callers_narrow e f [] h = (tt, tt)
  callers_narrow e f (saved g θ L ∷ A) h =
      let r = callers_narrow e g A h.4 in
      (every_append NarrowFrame L (saved_frames A) (takes_narrow g (P.fun f).result L h.1) r.0, (held_few g θ h.5 h.0, r.1))

  proper_narrow : (s : State) → Proper P s → Narrow s
  unfolding frames_of activations_of
  proper_narrow (State.value c) h = record { frames = tt; activations = tt }
  proper_narrow (exception x) h = record { frames = tt; activations = tt }
  proper_narrow (calling α o) h = record { frames = tt; activations = tt }
  proper_narrow (returned α c) h = record { frames = tt; activations = tt }
  proper_narrow (running c α f η K A) h =
      let r = callers_narrow α.entry f A h.callers in
      record {
        frames = every_append NarrowFrame K (saved_frames A) (gives_narrow f c K h.frames) r.0;
        activations = (held_few f η h.known h.holds, r.1);
      }

  pub fit_narrow : (s : State) → Fit P s → Narrow s
  fit_narrow s h = proper_narrow s h.proper

-- the program of an accepted file is sized
pub file_sized : (s : List ℕ) → check_of s ≡ accepted → Sized (program_of s)
unfolding program_of
file_sized s e =
    let h = accepted_is s e in
    record {
      funs = (parts s h).few;
      nodes = (parts s h).small;
      params = λ f l. unfold fun_of in (rw (types_length (types.var_type s f (part_of s f) (count_of s f)) (params_of s f) 0) (function s h f l).params);
      vars = λ f l. rw (variables s h f l, types_length (types.var_type s f (part_of s f) (count_of s f)) (vars_of s f) 0) (function s h f l).vars;
    }
