-- Histories of who has a value, and runs.
use Rattle.std.specs.Prelude.{◌≡◌, Bool, true, ◌&&◌, List, [], ◌∷◌, ℕ, zero, suc, ◌+◌, ltb, leb, length}
use Rattle.std.proofs.Math.Option.{Option, none, some}
use Rattle.varset.specs.Lowest.{pick}
use Rattle.varset.specs.Sets.{Set, with, without}
use Rattle.spec_machine.specs.Values.{Value}
use Rattle.spec_machine.specs.Program.{Program}
use Rattle.spec_machine.specs.Machine.{Exception, State, exception, calling, returned, running, Saved, saved, Rule, Event, quiet, reads, has, lacks, enters, leaves, ends, Step}
use Rattle.spec_machine.specs.Next.{Move, stuck, next}
use Rattle.spec_machine.specs.Fit.{held, WithinLimits, caller_limit, frame_limit, saved_frame_count}

-- what an event makes of the history: for each activation, the current one first, the variables that have a value
abbrev pub carry : Event → List Set → List Set
carry quiet h = h
carry (reads x) h = h
carry (has x) [] = []
carry (has x) (d ∷ h) = with d x ∷ h
carry (lacks x) [] = []
carry (lacks x) (d ∷ h) = without d x ∷ h
carry (enters n) h = (λ x. ltb x n) ∷ h
carry leaves [] = []
carry leaves (d ∷ h) = h
carry ends h = []

-- a step that reads its variable finds it in the last set
abbrev pub HeldInLast : ℕ → List Set → Type 0
HeldInLast x [] = ⊥
HeldInLast x (d ∷ h) = d x ≡ true

abbrev pub ReadsHeld : Event → List Set → Type 0
ReadsHeld quiet h = Unit {0}
ReadsHeld (reads x) h = HeldInLast x h
ReadsHeld (has x) h = Unit {0}
ReadsHeld (lacks x) h = Unit {0}
ReadsHeld (enters n) h = Unit {0}
ReadsHeld leaves h = Unit {0}
ReadsHeld ends h = Unit {0}

-- the variables that hold values, for each activation, the current one first
abbrev pub saved_held : List Saved → List Set
saved_held [] = []
saved_held (saved g θ L ∷ A) = held θ ∷ saved_held A

abbrev pub all_held : State → List Set
all_held (State.value c) = []
all_held (exception x) = []
all_held (calling α o) = []
all_held (returned α c) = []
all_held (running c α f η K A) = held η ∷ saved_held A

-- outcomes and runs
pub data Outcome : Type 0 where
  value : ℕ → Outcome
  raised : Exception → Outcome
  Spent Full : Outcome

-- not final: it has still to go
abbrev pub Going : State → Type 0
Going (State.value c) = ⊥
Going (exception x) = ⊥
Going (calling α o) = Unit {0}
Going (returned α c) = Unit {0}
Going (running c α f η K A) = Unit {0}

-- from a state and a history, with an allowance: the number of steps, the state and history after, the outcome
pub data RunsTo (P : Program) : State → List Set → ℕ → ℕ → State → List Set → Outcome → Type 0 where
  ended : {c a : ℕ} {h : List Set} → RunsTo P (State.value c) h a 0 (State.value c) h (Outcome.value c)
  failed : {x : Exception} {a : ℕ} {h : List Set} → RunsTo P (exception x) h a 0 (exception x) h (raised x)
  spent : {s : State} {h : List Set} → Going s → RunsTo P s h 0 0 s h Spent
  full : {s t : State} {r : Rule} {v : Event} {a : ℕ} {h : List Set} → Step P r v s t → ¬ WithinLimits t → RunsTo P s h (suc a) 0 s h Full
  goes : {s t u : State} {r : Rule} {v : Event} {a k : ℕ} {h h' : List Set} {o : Outcome} → Step P r v s t → WithinLimits t → ReadsHeld v h
      → RunsTo P t (carry v h) a k u h' o → RunsTo P s h (suc a) (suc k) u h' o

-- the run as a function
abbrev pub within_limits : State → Bool
within_limits (State.value c) = true
within_limits (exception x) = true
within_limits (calling α o) = true
within_limits (returned α c) = true
within_limits (running c α f η K A) = leb (1 + length A) caller_limit && leb (length K + saved_frame_count A) frame_limit

pub record Ran : Type 0 where
  pub outcome : Outcome
  pub steps : ℕ
  pub state : State

abbrev pub counted : Ran → Ran
counted r = record { outcome = r.outcome; steps = suc r.steps; state = r.state }

abbrev pub stopped : State → Ran
stopped (State.value c) = record { outcome = Outcome.value c; steps = 0; state = State.value c }
stopped (exception x) = record { outcome = raised x; steps = 0; state = exception x }
stopped (calling α o) = record { outcome = Spent; steps = 0; state = calling α o }
stopped (returned α c) = record { outcome = Spent; steps = 0; state = returned α c }
stopped (running c α f η K A) = record { outcome = Spent; steps = 0; state = running c α f η K A }

abbrev pub onward : State → Move → (State → Ran) → Ran
onward s stuck f = stopped s
onward s (Move.goes r t) f =
    let q = f t in
    pick (within_limits t) (counted q) (record { outcome = Full; steps = 0; state = s })

unfoldable pub run_of : Program → ℕ → State → Ran
run_of P zero s = stopped s
run_of P (suc a) s = onward s (next P s) (λ t. run_of P a t)

-- the state that a run stops at
abbrev pub after : Program → ℕ → State → State
after P a s = (run_of P a s).state

-- the variable x of the current activation; none where there is no such variable
abbrev pub looked : List Value → ℕ → Option Value
looked [] x = none
looked (v ∷ η) zero = some v
looked (v ∷ η) (suc x) = looked η x

abbrev pub look_up : State → ℕ → Option Value
look_up (State.value c) x = none
look_up (exception e) x = none
look_up (calling α o) x = none
look_up (returned α c) x = none
look_up (running c α f η K A) x = looked η x
