-- A logged run from a fit state goes as the rules say, ends in a fit state, and writes in its log from the used length on alone.
use mathlib.Core.Path.{◌≡◌, refl, sym, ap, ◌∙◌}
use mathlib.Core.Bool.{true, false}
use mathlib.Core.List.{List}
use Prim.Native.Nat.{ℕ, zero, suc, ◌+◌, ◌-◌, ◌<◌, ◌≤◌}
use native.Mathlib.Omega.{arith}
use lib.Dec.{eqb, leb}
use lib.ListN.{length, take, drop}
use lib.Seq.{take-take}
use borrow.Author.Tests.{eqb-true, eqb-false, leb-true, leb-false, lt-leb, le-leb}
use Rattle.varset.specs.Sets.{Set}
use Rattle.words.specs.Blocks.{puts}
use Rattle.words.proofs.Blocks.{length_puts}
use Rattle.records.proofs.Bools.{by}
use Rattle.spec_machine.specs.Program.{Program}
use Rattle.spec_machine.specs.Machine.{State, Rule, Event, Step}
use Rattle.spec_machine.specs.Fit.{WithinLimits, Fit}
use Rattle.spec_machine.specs.Run.{Outcome, RunsTo, Ran, all_held, stopped, run_of}
use Rattle.spec_machine.proofs.Accepted.{Accepted}
use Rattle.spec_machine.proofs.KeepWords.{ConstWords}
use Rattle.spec_machine.proofs.One.{one_rule}
use Rattle.spec_machine.proofs.Runs.{Good, ran, runs_are}
use Rattle.spec_image.specs.Image.{image}
use Rattle.spec_log.specs.Records.{record_of}
use Rattle.spec_log.specs.Logged.{Stop, ends, LogFull, record_bytes, LogsTo, stops, full, Logged, later, still, recorded, logged, log_of}
use Rattle.spec_log.proofs.Records.{kept_below, kept_above}
use Rattle.spec_log.proofs.OneStep.{OneStep, steps_few, one-step, stands, stopped_run, run_one}

-- the log with the record of a step, and the logged run after it
abbrev pub with_step : List ℕ → ℕ → State → State → List ℕ
with_step log used s t = puts log used 0 (record_of (image s) (image t))

abbrev pub log_next : Program → ℕ → State → State → List ℕ → ℕ → Logged
log_next P a s t log used = log_of P a t (with_step log used s t) (used + record_bytes s t)

-- a logged run that the relation gives too: the state after is fit, and the history is what is held;
-- the log keeps its length, what was in use and what is not, and has room for what is in use
pub record Keeps (P : Program) (s : State) (h : List Set) (a : ℕ) (log : List ℕ) (used : ℕ) (q : Logged) : Type 0 where
  pub history : List Set
  pub logs : LogsTo P (length log - used) s h a q.steps q.state history q.stop
  pub fit : Fit P q.state
  pub same : history ≡ all_held q.state
  pub long : length q.log ≡ length log
  pub before : take used q.log ≡ take used log
  pub after : drop q.used q.log ≡ drop q.used log
  pub grows : used ≤ q.used
  pub room : used ≤ length log → q.used ≤ length log

-- no step
keeps_still : {P : Program} (a : ℕ) (s : State) (log : List ℕ) (used : ℕ) (o : Stop) → Fit P s
    → LogsTo P (length log - used) s (all_held s) a 0 s (all_held s) o → Keeps P s (all_held s) a log used (still o s log used)
keeps_still a s log used o f l = record { history = all_held s; logs = l; fit = f; same = refl; long = refl; before = refl; after = refl; grows = omega arith; room = λ i. i }

-- a step, and the run after it
keeps_on : {P : Program} (a : ℕ) (s t : State) (log : List ℕ) (used : ℕ) (q : Logged) → OneStep P s (all_held s) t (all_held t) → record_bytes s t ≤ length log - used
    → Keeps P t (all_held t) a (with_step log used s t) (used + record_bytes s t) q → Keeps P s (all_held s) (suc a) log used (later 1 q)
keeps_on a s t log used q o l g =
    let r = record_of (image s) (image t) in
    let n : length (puts log used 0 r) ≡ length log = length_puts r log used 0 in
    let d : length (puts log used 0 r) - (used + length r) ≡ length log - used - length r = omega (arith, n) in
    let e : 1 + q.steps ≡ suc q.steps = omega arith in
    let b : take used q.log ≡ take used (puts log used 0 r)
    = sym (take-take used (used + length r) q.log (omega arith)) ∙ ap (λ (l : List ℕ). take used l) g.before ∙ take-take used (used + length r) (puts log used 0 r) (omega arith) in
    record {
      history = g.history;
      logs = rw e (LogsTo.goes {h = all_held s} o.step o.within l o.reads (rw (d, o.history) at g.logs));
      fit = g.fit;
      same = g.same;
      long = g.long ∙ n;
      before = b ∙ kept_below r log used used (omega arith);
      after = g.after ∙ kept_above r log used q.used g.grows;
      grows = omega (arith, g.grows);
      room = λ i. omega (arith, g.room (omega (arith, n, l, i)), n);
    }

module _ {P : Program} (c : Accepted P) (constants : ConstWords P) where
  -- what holds of every logged run from a fit state: by no step, and by one step and the run after it
  pub by_steps : (C : ℕ → State → List ℕ → ℕ → Logged → Type 0)
      → ((a : ℕ) (s : State) (log : List ℕ) (used : ℕ) (o : Stop) → Fit P s → LogsTo P (length log - used) s (all_held s) a 0 s (all_held s) o → C a s log used (still o s log used))
      → ((a : ℕ) (s t : State) (log : List ℕ) (used : ℕ) → Fit P s → Fit P t → OneStep P s (all_held s) t (all_held t) → record_bytes s t ≤ length log - used
      → C a t (with_step log used s t) (used + record_bytes s t) (log_next P a s t log used) → C (suc a) s log used (later 1 (log_next P a s t log used)))
      → (a : ℕ) (s : State) (log : List ℕ) (used : ℕ) → Fit P s → C a s log used (log_of P a s log used)
  unfolding log_of
  by_steps C rests goes zero s log used f = rests 0 s log used (ends (stopped s).outcome) f (stops (stopped_run s (all_held s)))
  by_steps C rests goes (suc a) s log used f = on_one (run_of P 1 s) (ran c constants 1 s (all_held s) f refl) (λ l u g. by_steps C rests goes a (run_of P 1 s).state l u g)
    where
      on_one : (one : Ran) → Good P s (all_held s) 1 one
          → ((l : List ℕ) (u : ℕ) → Fit P one.state → C a one.state l u (log_of P a one.state l u))
          → C (suc a) s log used (logged s one log used (λ l u. log_of P a one.state l u))
      on_one one g rest = by (eqb one.steps 1) steps stays
        where
          steps : eqb one.steps 1 ≡ true → C (suc a) s log used (logged s one log used (λ l u. log_of P a one.state l u))
          steps b =
              let o = rw g.same at (one-step g.runs refl (eqb-true one.steps 1 b)) in
              let n = record_bytes s one.state in
              let free = length log - used in
              rw b
              (by (leb n free)
              (λ i. rw i (goes a s one.state log used f g.fit o (leb-true n free i) (rest _ _ g.fit)))
              (λ i. rw i (rests (suc a) s log used LogFull f (full o.step o.within (leb-false n free i)))))

          stays : eqb one.steps 1 ≡ false → C (suc a) s log used (logged s one log used (λ l u. log_of P a one.state l u))
          stays b =
              let n : (one.steps ≡ 1) → ⊥ = eqb-false one.steps 1 b in
              let z : one.steps ≡ 0 = omega (arith, n, steps_few g.runs) in
              rw b (rests (suc a) s log used (ends one.outcome) f (stops (stands g.runs (omega arith) z a)))

  -- the logged run as a function is a logged run of the relation
  pub logs : (a : ℕ) (s : State) (h : List Set) (log : List ℕ) (used : ℕ) → Fit P s → h ≡ all_held s → Keeps P s h a log used (log_of P a s log used)
  logs a s h log used f e = rw e (by_steps (λ b t l u q. Keeps P t (all_held t) b l u q) keeps_still (λ b t u l v g i. keeps_on b t u l v _) a s log used f)

-- the logged run's next step
pub log_step : {P : Program} {r : Rule} {v : Event} {s t : State} (a : ℕ) (log : List ℕ) (used : ℕ) → Step P r v s t → WithinLimits t
    → log_of P (suc a) s log used ≡ recorded (leb (record_bytes s t) (length log - used)) s (record_of (image s) (image t)) log used (λ l u. log_of P a t l u)
unfolding log_of
log_step a log used p w = let y = run_one p w in rw (y.0, y.1)

-- where a run takes no step, a logged run takes none
pub log_stop : {P : Program} {s : State} {h : List Set} {o : Outcome} (a : ℕ) (log : List ℕ) (used : ℕ) → RunsTo P s h a 0 s h o → log_of P a s log used ≡ still (ends o) s log used
unfolding log_of run_of
log_stop {s = s} zero log used r = ap (λ (q : Ran). still (ends q.outcome) s log used) (runs_are r)
log_stop {P} {s} (suc a) log used r =
    ap (λ (q : Ran). logged s q log used (λ l u. log_of P a q.state l u)) (runs_are (stands r (omega arith) refl 0))

-- no step is taken whose record does not fit
pub none_over : {P : Program} {r : Rule} {v : Event} {s t u : State} {h k : List Set} {free a n : ℕ} {o : Stop}
    → LogsTo P free s h a n u k o → Step P r v s t → free < record_bytes s t → n ≡ 0
none_over (stops q) p l = refl
none_over (full q w f) p l = refl
none_over (LogsTo.goes q w f d rest) p l = let z = (one_rule p q).2 in absurd (omega (arith, rw z at l, f))

-- the relation is the function: stop, steps and state are determined
pub logs_are : {P : Program} {s u : State} {h k : List Set} {free a n : ℕ} {o : Stop} → LogsTo P free s h a n u k o → (log : List ℕ) (used : ℕ) → length log - used ≡ free
    → ((log_of P a s log used).stop ≡ o) × ((log_of P a s log used).steps ≡ n) × ((log_of P a s log used).state ≡ u)
logs_are (stops {a = a} r) log used e = rw (log_stop a log used r) (refl, refl, refl)
logs_are (full {a = a} {s} {t} p w l) log used e =
    rw (log_step a log used p w, lt-leb (record_bytes s t) (length log - used) (omega arith)) (refl, refl, refl)
logs_are (LogsTo.goes {a = a} {s = s} {t} p w l q rest) log used e =
    let r = record_of (image s) (image t) in
    let d : length (puts log used 0 r) - (used + length r) ≡ length log - used - length r = omega (arith, length_puts r log used 0) in
    let y = logs_are rest (puts log used 0 r) (used + length r) (d ∙ rw e) in
    rw (log_step a log used p w, le-leb (record_bytes s t) (length log - used) (omega arith)) (y.0, omega (arith, y.1), y.2)
