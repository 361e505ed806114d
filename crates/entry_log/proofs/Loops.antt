-- A logged run step by step.
use Rattle.std.specs.Prelude.{Err}
use mathlib.Core.Path.{◌≡◌, refl, sym, ap, ◌∙◌}
use mathlib.Core.Bool.{true, false}
use mathlib.Core.List.{List, ◌++◌}
use Prim.Native.Nat.{ℕ, zero, suc, ◌+◌, ◌-◌, ◌≤◌, ◌<◌}
use native.Mathlib.Omega.{arith}
use lib.Dec.{eqb, leb}
use lib.ListN.{length, take}
use borrow.Author.Tests.{leb-true}
use Rattle.words.specs.Blocks.{puts}
use Rattle.words.proofs.Blocks.{length_puts}
use Rattle.spec_language.specs.Check.{accepted, check_of}
use Rattle.spec_machine.specs.Program.{Program}
use Rattle.spec_machine.specs.Machine.{State}
use Rattle.spec_machine.specs.Fit.{Fit}
use Rattle.spec_machine.specs.Run.{Ran, stopped, run_of}
use Rattle.spec_machine.specs.File.{program_of}
use Rattle.spec_machine.proofs.KeepWords.{Bytes}
use Rattle.spec_image.specs.Sizes.{size}
use Rattle.spec_image.specs.Image.{image}
use Rattle.spec_log.specs.Records.{record_of}
use Rattle.spec_log.specs.Logged as spec
use Rattle.spec_log.specs.Logged.{Logged, later, still, ends, log_of}
use Rattle.spec_image.proofs.Images.{image_length}
use Rattle.spec_log.proofs.Records.{record_least}
use Rattle.spec_log.proofs.OneStep.{stopped_at}
use Rattle.run_loop.specs.declared.Outcome.{Outcome}
use Rattle.run_loop.specs.Runs.{HoldsFit, Ends, outcome_of}
use Rattle.log_records.specs.Ranges.{Within}
use Rattle.log_records.specs.declared.extent.Extent.{Extent}
use Rattle.entry_log.specs.declared.Stop.{Stop}
use Rattle.entry_log.specs.declared.Stop.TheVariants.{Ended, LogFull}
use Rattle.entry_log.specs.Replies.{stop_of}
use Rattle.entry_log.specs.Logs.{Taken, Standing, Crowded, StepLogged, Stops}
use Rattle.entry_log.proofs.Steps.{first_words, one_fit}

module _ (P : Program) (a : ℕ) (s : State) (log : List ℕ) (used : ℕ) where
  abbrev one : Ran
  one = run_of P 1 s

  abbrev r : List ℕ
  r = record_of (image s) (image one.state)

  -- what a logged run does by the run of one step
  took : one.steps ≡ 1 → leb (length r) (length log - used) ≡ true → log_of P (suc a) s log used ≡ later 1 (log_of P a one.state (puts log used 0 r) (used + length r))
  unfolding log_of
  took e f = rw (e, f)

  stands : one.steps ≡ 0 → log_of P (suc a) s log used ≡ still (ends one.outcome) s log used
  unfolding log_of
  stands e = rw e

  full : one.steps ≡ 1 → leb (length r) (length log - used) ≡ false → log_of P (suc a) s log used ≡ still spec.LogFull s log used
  unfolding log_of
  full e f = rw (e, f)

-- a logged run from s₀ with the rest R that has come to a state after so many steps
pub record Reached (b : List ℕ) (allowed : ℕ) (log₀ : List ℕ) (used : ℕ) (s₀ : State) (R m before log : List ℕ) (extent : Extent) (next steps : ℕ) : Type 0 where
  pub state : State
  pub fit : Fit (program_of b) state
  pub held : m ≡ image state ++ R
  pub copied : before ≡ image state
  pub within : Within extent.low extent.high before
  pub rest : later steps (log_of (program_of b) (allowed - steps) state log next) ≡ log_of (program_of b) allowed s₀ log₀ used

-- from every state that the first memory m₀ holds
pub record Logging (b m₀ before₀ : List ℕ) (allowed : ℕ) (log₀ : List ℕ) (used : ℕ) (m before log : List ℕ) (extent : Extent) (next steps : ℕ) : Type 0 where
  pub few : steps ≤ allowed
  pub long : length m ≡ length m₀
  pub wide : length before ≡ length before₀
  pub room : length log ≡ length log₀
  pub reached : (s₀ : State) (R : List ℕ) → m₀ ≡ image s₀ ++ R → Fit (program_of b) s₀ → Reached b allowed log₀ used s₀ R m before log extent next steps

-- none is taken
pub logging_none : (b m before : List ℕ) (allowed : ℕ) (log : List ℕ) (used : ℕ) (x : Extent) → before ≡ take size m → Within x.low x.high (take size m)
    → Logging b m before allowed log used m before log x used 0
logging_none b m before allowed log used x w v =
    record {
      few = omega arith;
      long = refl;
      wide = refl;
      room = refl;
      reached = λ s R e f.
          let q : Logged = log_of (program_of b) allowed s log used in
          let z : 0 + q.steps ≡ q.steps = omega arith in
          let n : allowed - 0 ≡ allowed = omega arith in
          record { state = s; fit = f; held = e; copied = w ∙ first_words s R b f e; within = rw w v; rest = rw n (ap (λ (i : ℕ). record { stop = q.stop; steps = i; state = q.state; log = q.log; used = q.used }) z) };
    }

module _ (b : List ℕ) (small : Bytes b) (c : check_of b ≡ accepted) {m₀ before₀ : List ℕ} {allowed : ℕ} {log₀ : List ℕ} {used : ℕ} {m before log : List ℕ} {x : Extent} {next steps : ℕ}
    (g : Logging b m₀ before₀ allowed log₀ used m before log x next steps) where
  -- the memory holds a fit state
  pub logging_held : HoldsFit b m₀ → HoldsFit b m × (before ≡ take size m) × Within x.low x.high before
  logging_held z =
      let t = g.reached z.state z.rest z.held z.fit in
      (record { passed = c; state = t.state; rest = z.rest; held = t.held; fit = t.fit }, t.copied ∙ sym (first_words t.state z.rest b t.fit t.held), t.within)

  module _ (l : steps < allowed) where
    left : allowed - steps ≡ suc (allowed - (steps + 1))
    left = omega arith

    -- a step is taken
    on : {y : Extent} {bytes : ℕ} {m' before' log' : List ℕ} (s₀ : State) (R : List ℕ) (t : Reached b allowed log₀ used s₀ R m before log x next steps)
        → Taken (program_of b) t.state R log next y bytes m' before' log' → Reached b allowed log₀ used s₀ R m' before' log' y (next + bytes) (steps + 1)
    on s₀ R t k =
        let n = one (program_of b) 0 t.state log next in
        let q : Logged = log_of (program_of b) (allowed - (steps + 1)) n.state (puts log next 0 (r (program_of b) 0 t.state log next)) (next + length (r (program_of b) 0 t.state log next)) in
        let e : log_of (program_of b) (allowed - steps) t.state log next ≡ later 1 q = rw left (took (program_of b) (allowed - (steps + 1)) t.state log next k.stepped k.fits) in
        let z : (steps + 1) + q.steps ≡ steps + (1 + q.steps) = omega arith in
        let u : later (steps + 1) q ≡ later steps (later 1 q) = ap (λ (i : ℕ). record { stop = q.stop; steps = i; state = q.state; log = q.log; used = q.used }) z in
        record {
          state = n.state;
          fit = one_fit b small c t.state R t.fit;
          held = k.held;
          copied = k.copied;
          within = k.within;
          rest = rw (k.logged, k.long) (u ∙ (ap (later steps) (sym e) ∙ t.rest));
        }

    -- there is room for its record
    pub took_room : {y : Extent} {bytes : ℕ} {m' before' log' : List ℕ} (s : State) (R : List ℕ) → Fit (program_of b) s → Taken (program_of b) s R log next y bytes m' before' log'
        → next + bytes ≤ length log
    took_room s R f k =
        let q = r (program_of b) 0 s log next in
        omega (arith, leb-true (length q) (length log - next) k.fits, k.long, record_least (image s) (image (one (program_of b) 0 s log next).state) (image_length s f.within))

    -- and the run goes on
    pub logging_on : {y : Extent} {bytes : ℕ} {m' before' log' : List ℕ} → length m' ≡ length m → length before' ≡ length before → length log' ≡ length log
        → ((s : State) (R : List ℕ) → m ≡ image s ++ R → Fit (program_of b) s → Taken (program_of b) s R log next y bytes m' before' log')
        → Logging b m₀ before₀ allowed log₀ used m' before' log' y (next + bytes) (steps + 1)
    logging_on {y} {bytes} {m'} {before'} {log'} p q u k =
        record {
          few = omega arith;
          long = p ∙ g.long;
          wide = q ∙ g.wide;
          room = u ∙ g.room;
          reached = λ s₀ R e f. let t = g.reached s₀ R e f in on s₀ R t (k t.state R t.held t.fit);
        }

  -- it stops
  ended : (s₀ : State) (R : List ℕ) (t : Reached b allowed log₀ used s₀ R m before log x next steps) (o : spec.Stop) {stop : Stop} {m' log' : List ℕ}
      → log_of (program_of b) (allowed - steps) t.state log next ≡ still o t.state log next → stop ≡ stop_of o → m' ≡ image t.state ++ R → log' ≡ log
      → Stops 0 (log_of (program_of b) allowed s₀ log₀ used) stop steps next m' R log'
  ended s₀ R t o e p h u =
      let z : later steps (still o t.state log next) ≡ log_of (program_of b) allowed s₀ log₀ used = ap (later steps) (sym e) ∙ t.rest in
      rw (← z) (record { stop_is = p; steps_are = omega arith; used_is = refl; held = h; logged = u })

  module _ (l : steps < allowed) where
    -- because the run stands
    pub ended_standing : {o : Outcome} {m' log' : List ℕ} (s₀ : State) (R : List ℕ) → m₀ ≡ image s₀ ++ R → Fit (program_of b) s₀
        → ((s : State) (R : List ℕ) → m ≡ image s ++ R → Fit (program_of b) s → Standing (program_of b) s R log next o m' log')
        → Stops 0 (log_of (program_of b) allowed s₀ log₀ used) (Ended o) steps next m' R log'
    unfolding stop_of
    ended_standing s₀ R e f h =
        let t = g.reached s₀ R e f in
        let k = h t.state R t.held t.fit in
        ended s₀ R t (ends (one (program_of b) 0 t.state log next).outcome) (rw (left l) (stands (program_of b) (allowed - (steps + 1)) t.state log next k.stood)) (ap Ended k.outcome_is) k.held k.logged

    -- because the log has no room
    pub ended_crowded : {m' log' : List ℕ} (s₀ : State) (R : List ℕ) → m₀ ≡ image s₀ ++ R → Fit (program_of b) s₀
        → ((s : State) (R : List ℕ) → m ≡ image s ++ R → Fit (program_of b) s → Crowded (program_of b) s R log next m' log')
        → Stops 0 (log_of (program_of b) allowed s₀ log₀ used) LogFull steps next m' R log'
    unfolding stop_of
    ended_crowded s₀ R e f h =
        let t = g.reached s₀ R e f in
        let k = h t.state R t.held t.fit in
        ended s₀ R t spec.LogFull (rw (left l) (full (program_of b) (allowed - (steps + 1)) t.state log next k.stepped k.large)) refl k.held k.logged

    -- for either reason
    pub ended_early : (stop : Stop) (before' : List ℕ) {m' log' : List ℕ} (s₀ : State) (R : List ℕ) → m₀ ≡ image s₀ ++ R → Fit (program_of b) s₀
        → ((s : State) (R : List ℕ) → m ≡ image s ++ R → Fit (program_of b) s → StepLogged (program_of b) s R log next (Err stop) m' before' log')
        → Stops 0 (log_of (program_of b) allowed s₀ log₀ used) stop steps next m' R log'
    ended_early (Ended o) before' s₀ R e f h = ended_standing s₀ R e f h
    ended_early LogFull before' s₀ R e f h = ended_crowded s₀ R e f h

  -- because all are taken
  pub ended_spent : {o : Outcome} {n : ℕ} {m' : List ℕ} (s₀ : State) (R : List ℕ) → allowed ≤ steps → m₀ ≡ image s₀ ++ R → Fit (program_of b) s₀
      → ((s : State) (R : List ℕ) → m ≡ image s ++ R → Fit (program_of b) s → Ends 0 (run_of (program_of b) 0 s) o n m' R)
      → Stops 0 (log_of (program_of b) allowed s₀ log₀ used) (Ended o) steps next m' R log
  unfolding stop_of run_of log_of
  ended_spent s₀ R l e f h =
      let t = g.reached s₀ R e f in
      let k = h t.state R t.held t.fit in
      let z : allowed - steps ≡ 0 = omega arith in
      ended s₀ R t (ends (stopped t.state).outcome) (rw z) (ap Ended k.outcome_is) (k.held ∙ ap (λ (s : State). image s ++ R) (stopped_at t.state).1) refl
