-- Logged runs: a record for each step, and a stop more.
use Rattle.std.specs.Prelude.{Bool, List, ℕ, zero, suc, ◌+◌, ◌-◌, ◌<◌, ◌≤◌, eqb, leb, length}
use Rattle.varset.specs.Lowest.{pick}
use Rattle.varset.specs.Sets.{Set}
use Rattle.words.specs.Blocks.{puts}
use Rattle.spec_machine.specs.Program.{Program}
use Rattle.spec_machine.specs.Machine.{State, Rule, Event, Step}
use Rattle.spec_machine.specs.Fit.{WithinLimits}
use Rattle.spec_machine.specs.Run.{Outcome, Ran, RunsTo, ReadsHeld, carry, stopped, run_of}
use Rattle.spec_image.specs.Image.{image}
use Rattle.spec_log.specs.Records.{record_of}

-- how a logged run stops: as a run does, or before a step whose record does not fit
pub data Stop : Type 0 where
  ends : Outcome → Stop
  LogFull : Stop

-- the bytes of the record of a step from one state to another
abbrev pub record_bytes : State → State → ℕ
record_bytes s t = length (record_of (image s) (image t))

-- as `RunsTo`, with so many bytes of the log free: it stops where a run takes no step, else where the record of the step does not fit
pub data LogsTo (P : Program) : ℕ → State → List Set → ℕ → ℕ → State → List Set → Stop → Type 0 where
  stops : {free a : ℕ} {s : State} {h : List Set} {o : Outcome} → RunsTo P s h a 0 s h o → LogsTo P free s h a 0 s h (ends o)
  full : {free a : ℕ} {s t : State} {r : Rule} {v : Event} {h : List Set} → Step P r v s t → WithinLimits t → free < record_bytes s t → LogsTo P free s h (suc a) 0 s h LogFull
  goes : {free a k : ℕ} {s t u : State} {r : Rule} {v : Event} {h h' : List Set} {o : Stop} → Step P r v s t → WithinLimits t → record_bytes s t ≤ free → ReadsHeld v h
      → LogsTo P (free - record_bytes s t) t (carry v h) a k u h' o → LogsTo P free s h (suc a) (suc k) u h' o

-- the same with the log itself, as a function
pub record Logged : Type 0 where
  pub stop : Stop
  pub steps : ℕ
  pub state : State
  pub log : List ℕ
  pub used : ℕ

-- so many steps before it
abbrev pub later : ℕ → Logged → Logged
later k q = record { stop = q.stop; steps = k + q.steps; state = q.state; log = q.log; used = q.used }

-- no step: the log stays
abbrev pub still : Stop → State → List ℕ → ℕ → Logged
still o s log used = record { stop = o; steps = 0; state = s; log = log; used = used }

-- the record fits after the used length, or not
abbrev pub recorded : Bool → State → List ℕ → List ℕ → ℕ → (List ℕ → ℕ → Logged) → Logged
recorded fits s r log used on = pick fits (later 1 (on (puts log used 0 r) (used + length r))) (still LogFull s log used)

-- one step by a run of one step, or none
abbrev pub logged : State → Ran → List ℕ → ℕ → (List ℕ → ℕ → Logged) → Logged
logged s one log used on =
    let r = record_of (image s) (image one.state) in
    pick (eqb one.steps 1) (recorded (leb (length r) (length log - used)) s r log used on) (still (ends one.outcome) s log used)

unfoldable pub log_of : Program → ℕ → State → List ℕ → ℕ → Logged
log_of P zero s log used = still (ends (stopped s).outcome) s log used
log_of P (suc a) s log used = let one = run_of P 1 s in logged s one log used (λ l u. log_of P a one.state l u)
