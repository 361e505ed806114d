-- A run of one step at most: its step, or where it stops.
use mathlib.Core.Path.{◌≡◌, refl}
use mathlib.Core.List.{List}
use Prim.Native.Nat.{ℕ, suc, ◌<◌, ◌≤◌}
use native.Mathlib.Omega.{arith}
use Rattle.varset.specs.Sets.{Set}
use Rattle.spec_machine.specs.Program.{Program}
use Rattle.spec_machine.specs.Machine.{State, exception, calling, returned, running, Rule, Event, Step}
use Rattle.spec_machine.specs.Next.{Move, next}
use Rattle.spec_machine.specs.Fit.{WithinLimits}
use Rattle.spec_machine.specs.Run.{carry, Outcome, RunsTo, ended, failed, spent, full, ReadsHeld, stopped, run_of}
use Rattle.spec_machine.proofs.Tests.{limits_say}
use Rattle.spec_machine.proofs.One.{sound}

-- the one step of a run: its rule and event, and what it makes of the history
pub record OneStep (P : Program) (s : State) (h : List Set) (t : State) (k : List Set) : Type 0 where
  pub rule : Rule
  pub event : Event
  pub step : Step P rule event s t
  pub within : WithinLimits t
  pub reads : ReadsHeld event h
  pub history : k ≡ carry event h

-- a run takes no more steps than it may
pub steps_few : {P : Program} {s u : State} {h k : List Set} {a n : ℕ} {o : Outcome} → RunsTo P s h a n u k o → n ≤ a
steps_few ended = omega arith
steps_few failed = omega arith
steps_few (spent g) = omega arith
steps_few (full p n) = omega arith
steps_few (RunsTo.goes p w q rest) = omega (arith, steps_few rest)

-- a run of no step stays where it is
pub no_step : {P : Program} {s u : State} {h k : List Set} {a n : ℕ} {o : Outcome} → RunsTo P s h a n u k o → n ≡ 0 → (s ≡ u) × (h ≡ k)
no_step ended e = (refl, refl)
no_step failed e = (refl, refl)
no_step (spent g) e = (refl, refl)
no_step (full p n) e = (refl, refl)
no_step (RunsTo.goes p w q rest) e = absurd (omega arith)

-- a run of one step with an allowance of one
pub one-step : {P : Program} {s u : State} {h k : List Set} {a n : ℕ} {o : Outcome} → RunsTo P s h a n u k o → a ≡ 1 → n ≡ 1 → OneStep P s h u k
one-step ended d e = absurd (omega arith)
one-step failed d e = absurd (omega arith)
one-step (spent g) d e = absurd (omega arith)
one-step (full p n) d e = absurd (omega arith)
one-step {P} {s} {h = h} (RunsTo.goes {r = r} {v} p w q rest) d e =
    let y = no_step rest (omega arith) in
    rw (← y.0, ← y.1) (record { rule = r; event = v; step = p; within = w; reads = q; history = refl })

-- a run of no step that had an allowance stands with any other
pub stands : {P : Program} {s u : State} {h k : List Set} {a n : ℕ} {o : Outcome} → RunsTo P s h a n u k o → 0 < a → n ≡ 0 → (b : ℕ) → RunsTo P s h (suc b) 0 s h o
stands ended l e b = ended
stands failed l e b = failed
stands (spent g) l e b = absurd (omega arith)
stands (full p n) l e b = full p n
stands (RunsTo.goes p w q rest) l e b = absurd (omega arith)

-- a run without allowance
pub stopped_run : {P : Program} (s : State) (h : List Set) → RunsTo P s h 0 0 s h (stopped s).outcome
stopped_run (State.value c) h = ended
stopped_run (exception x) h = failed
stopped_run (calling α o) h = spent tt
stopped_run (returned α c) h = spent tt
stopped_run (running c α f η K A) h = spent tt

-- it stays at its state
pub stopped_at : (s : State) → ((stopped s).steps ≡ 0) × ((stopped s).state ≡ s)
stopped_at (State.value c) = (refl, refl)
stopped_at (exception x) = (refl, refl)
stopped_at (calling α o) = (refl, refl)
stopped_at (returned α c) = (refl, refl)
stopped_at (running c α f η K A) = (refl, refl)

-- a step within the limits is the run of one step
pub run_one : {P : Program} {r : Rule} {v : Event} {s t : State} → Step P r v s t → WithinLimits t → ((run_of P 1 s).steps ≡ 1) × ((run_of P 1 s).state ≡ t)
unfolding run_of
run_one {P} {r} {v} {s} {t} p w =
    let e : next P s ≡ Move.goes r t = sound p in
    let y = stopped_at t in
    rw (e, (limits_say t).if w, y.0, y.1) (refl, refl)
