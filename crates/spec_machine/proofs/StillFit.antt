-- Every state that is fit by document 01's rule 13, where a return leaves what it found, is fit.
use mathlib.Core.Path.{◌≡◌}
use mathlib.Core.Bool.{true}
use mathlib.Core.List.{List, [], ◌∷◌, map}
use Prim.Native.Nat.{ℕ}
use Rattle.varset.specs.Sets.{Set, either}
use Rattle.records.proofs.Bools.{or_more}
use Rattle.spec_language.specs.Statements.{Expr}
use Rattle.spec_language.proofs.Returns.{replaced, plain_less, plain_ok}
use Rattle.spec_machine.specs.Program.{Program, var_types}
use Rattle.spec_machine.specs.Machine.{Frame, gather, and, wait, branch, check, Control, val, eval, exec, Saved, saved, State, exception, calling, returned, running}
use Rattle.spec_machine.specs.Fit.{HasFunction, AllHoldTyped, held, Takes, ControlOver, ReadsNodes, Flows, FlowsFrom, comes, comes_from, Entry, Callers, Proper, WithinLimits, InWords, Fit}
use Rattle.spec_machine.proofs.Moves.{flows_mono, shared_mono}

-- the program with each return judged as its expression alone
abbrev plainly : Program → Program
plainly P =
    record { edition = P.edition; funs = P.funs; fun = P.fun; nodes = P.nodes; look = P.look; see = P.see; reads = P.reads; stmt = λ f r. replaced Expr (P.stmt f r) }

-- return(_) leaves what it found, as discard does
abbrev plain : Frame → Frame
plain (gather h vs ns) = gather h vs ns
plain (and n) = and n
plain (wait r) = wait r
plain (Frame.store x) = Frame.store x
plain (branch a b) = branch a b
plain Frame.leave = Frame.discard
plain check = check
plain Frame.discard = Frame.discard

-- rule 13 of document 01, through frames and from the control
abbrev PlainFlows : Program → ℕ → List Frame → Set → Type 0
PlainFlows P f K d = Flows (plainly P) f (map plain K) d

abbrev PlainFlowsFrom : Program → ℕ → Control → List Frame → Set → Type 0
PlainFlowsFrom P f c K d = FlowsFrom (plainly P) f c (map plain K) d

abbrev PlainCallers : Program → ℕ → ℕ → List Saved → Type 0
PlainCallers P e f [] = f ≡ e
PlainCallers P e f (saved g θ L ∷ A) =
    AllHoldTyped θ (var_types (P.fun g)) × Takes P g (P.fun f).result L × PlainFlows P g L (held θ) × (comes P g L ≡ true) × PlainCallers P e g A × HasFunction P g

abbrev PlainProper : Program → State → Type 0
PlainProper P (State.value c) = Unit {0}
PlainProper P (exception x) = Unit {0}
PlainProper P (calling α o) = Proper P (calling α o)
PlainProper P (returned α c) = Proper P (returned α c)
PlainProper P (running c α f η K A) =
    Entry P α.entry × PlainCallers P α.entry f A × HasFunction P f × AllHoldTyped η (var_types (P.fun f)) × ControlOver P f c K × PlainFlowsFrom P f c K (held η) × (comes_from P f c K ≡ true)

-- a state that is fit by that rule
abbrev pub PlainFit : Program → State → Type 0
PlainFit P s = InWords s × WithinLimits s × PlainProper P s

module _ (P : Program) where
  -- what the operands read is the same
  reads_same : (f : ℕ) (ns : List ℕ) (d : Set) → ReadsNodes (plainly P) f ns d → ReadsNodes P f ns d
  reads_same f [] d o = tt
  reads_same f (n ∷ ns) d o = (o.0, reads_same f ns d o.1)

  flows_more : (f : ℕ) (K : List Frame) (d : Set) → PlainFlows P f K d → Flows P f K d
  unfolding either
  flows_more f [] d o = tt
  flows_more f (gather h vs ns ∷ K) d o = (reads_same f ns d o.0, flows_more f K d o.1)
  flows_more f (and n ∷ K) d o = (o.0, flows_more f K d o.1)
  flows_more f (wait r ∷ K) d o = (plain_ok (P.stmt f r) d o.0, flows_mono P f K _ _ (plain_less (P.stmt f r) d) (flows_more f K _ o.1))
  flows_more f (Frame.store x ∷ K) d o = flows_more f K _ o
  flows_more f (branch a b ∷ K) d o = (
    plain_ok (P.stmt f a) d o.0,
    plain_ok (P.stmt f b) d o.1,
    flows_mono P f K _ _ (shared_mono _ _ _ _ (plain_less (P.stmt f a) d) (plain_less (P.stmt f b) d)) (flows_more f K _ o.2),
  )
  flows_more f (Frame.leave ∷ K) d o = flows_mono P f K d _ (λ x h. or_more (d x) _ h) (flows_more f K d o)
  flows_more f (check ∷ K) d o = flows_more f K d o
  flows_more f (Frame.discard ∷ K) d o = flows_more f K d o

  from_more : (f : ℕ) (c : Control) (K : List Frame) (d : Set) → PlainFlowsFrom P f c K d → FlowsFrom P f c K d
  from_more f (val v) K d o = flows_more f K d o
  from_more f (eval n) K d o = (o.0, flows_more f K d o.1)
  from_more f (exec r) K d o = (plain_ok (P.stmt f r) d o.0, flows_mono P f K _ _ (plain_less (P.stmt f r) d) (flows_more f K _ o.1))

  callers_more : (e f : ℕ) (A : List Saved) → PlainCallers P e f A → Callers P e f A
  callers_more e f [] o = o
  callers_more e f (saved g θ L ∷ A) o = (o.0, o.1, flows_more g L (held θ) o.2, o.3, callers_more e g A o.4, o.5)

  -- every state that was fit is fit
  pub still_fit : (s : State) → PlainFit P s → Fit P s
  still_fit (State.value c) o = record { words = o.0; within = o.1; proper = o.2 }
  still_fit (exception x) o = record { words = o.0; within = o.1; proper = o.2 }
  still_fit (calling α a) o = record { words = o.0; within = o.1; proper = o.2 }
  still_fit (returned α c) o = record { words = o.0; within = o.1; proper = o.2 }
  still_fit (running c α f η K A) o =
      record {
        words = o.0;
        within = o.1;
        proper =
            record {
              entry = o.2.0;
              callers = callers_more α.entry f A o.2.1;
              known = o.2.2;
              holds = o.2.3;
              frames = o.2.4;
              flows = from_more f c K (held η) o.2.5;
              returns = o.2.6;
            };
      }
