-- The states that a run passes through.
use mathlib.Core.Path.{◌≡◌, refl, sym, ap, ◌∙◌}
use mathlib.Core.List.{List, ◌++◌}
use Prim.Native.Nat.{ℕ, ◌+◌, ◌-◌, ◌≤◌, ◌<◌}
use native.Mathlib.Omega.{arith}
use lib.ListN.{length, get_or, replicate, length-append}
use Rattle.spec_language.specs.Check.{accepted, check_of}
use Rattle.spec_machine.specs.Values.{Value}
use Rattle.spec_machine.specs.Machine as machine
use Rattle.spec_machine.specs.Machine.{Frame, Saved, RunEnv, State, running}
use Rattle.spec_machine.specs.Next.{goes, next}
use Rattle.spec_machine.specs.Run.{raised, run_of}
use Rattle.spec_machine.specs.Fit.{Entry, WithinLimits, Fit}
use Rattle.spec_machine.specs.File.{program_of}
use Rattle.spec_machine.proofs.One.{sound}
use Rattle.spec_machine.specs.Applies.{Applies}
use Rattle.spec_machine.proofs.Progress.{progress}
use Rattle.spec_machine.proofs.Files.{accepted_program}
use Rattle.spec_machine.proofs.Tests.{limits_say}
use Rattle.spec_machine.proofs.Safety.{stays_fit}
use Rattle.spec_image.specs.Layout.{env_words}
use Rattle.spec_image.specs.Image.{saved_frames, image}
use Rattle.spec_image.proofs.Images.{length_frames}
use Rattle.spec_image.proofs.Heads.{past_core}
use Rattle.spec_image.specs.Core.{core}
use Rattle.state_words.specs.declared.Control as code
use Rattle.state_words.specs.Meaning.{control_is}
use Rattle.run_rules.specs.declared.Registers.{Registers}
use Rattle.run_rules.specs.declared.Stepped.{Stepped}
use Rattle.run_rules.specs.declared.Stepped.TheVariants.{Went, Full, Returned, Arith, Abort}
use Rattle.run_rules.specs.StepsTo.{Rest, Describes, Bounds, Cleared, Raises, StepsTo}
use Rattle.records.specs.Starts.{Starts}
use Rattle.run_step.specs.StepsBy.{AtFitState, StepsBy}
use Rattle.run_step.proofs.GiveNeeds.{limited}
use Rattle.run_loop.specs.declared.Outcome.{Outcome}
use Rattle.run_loop.specs.declared.Outcome.TheVariants as outcome
use Rattle.run_loop.specs.Runs.{outcome_of, Ends, Emptied, Wiped}
use Rattle.run_loop.proofs.Ending.{ends_step, ends_full, ends_raised}

-- after k steps the run from σ stands here, and ends as the run from here does
pub record Reached (s : List ℕ) (n d : ℕ) (σ : State) (k : ℕ) (c : code.Control) (h : Registers) (m R : List ℕ) : Type 0 where
  pub environment : RunEnv
  pub function : ℕ
  pub variables : List Value
  pub frames : List Frame
  pub callers : List Saved
  pub held : m ≡ core function variables frames callers ++ (env_words environment ++ R)
  pub describes : Describes s h function frames callers
  pub fit : Fit (program_of s) (running (control_is c) environment function variables frames callers)
  pub then : (o : Outcome) (st : ℕ) (m' : List ℕ) → Ends k (run_of (program_of s) (n - k) (running (control_is c) environment function variables frames callers)) o st m' R
      → Ends d (run_of (program_of s) (n - d) σ) o st m' R

-- at the first
pub reached : (s : List ℕ) (n d : ℕ) (c : code.Control) (h : Registers) (m R : List ℕ) (α : RunEnv) (f : ℕ) (η : List Value) (K : List Frame) (A : List Saved)
    → m ≡ core f η K A ++ (env_words α ++ R) → Describes s h f K A → Fit (program_of s) (running (control_is c) α f η K A)
    → Reached s n d (running (control_is c) α f η K A) d c h m R
reached s n d c h m R α f η K A e t q =
    record { environment = α; function = f; variables = η; frames = K; callers = A; held = e; describes = t; fit = q; then = λ o st m' x. x }

-- it is where a step may be taken
pub reached_at_fit : (s table : List ℕ) (n d : ℕ) (σ : State) (k : ℕ) (c : code.Control) (h : Registers) (m R : List ℕ) → check_of s ≡ accepted → Starts s table
    → Reached s n d σ k c h m R → AtFitState s table (control_is c) h m
reached_at_fit s table n d σ k c h m R p i r =
    let q = sym r.describes.function in
    record {
      passed = p;
      starts = i;
      environment = r.environment;
      variables = r.variables;
      frames = r.frames;
      callers = r.callers;
      rest = R;
      held = rw q at r.held;
      describes = rw q at r.describes;
      fit = rw q at r.fit;
    }

module _ (s : List ℕ) (bytes : (i : ℕ) → get_or s i 0 < 256) (passed : check_of s ≡ accepted) (n d : ℕ) (σ : State) (k : ℕ) (c : code.Control) (h : Registers) (m m' R : List ℕ)
    (less : k < n) (r : Reached s n d σ k c h m R) where
  abbrev here : State
  here = running (control_is c) r.environment r.function r.variables r.frames r.callers

  -- the environment, and what follows the image
  abbrev after : Rest
  after α = env_words α ++ R

  abbrev Step : Stepped → Type 0
  Step a = StepsBy s a m m' after (next (program_of s) here)

  -- the rule that applies
  applies : Applies (program_of s) here
  applies = progress (accepted_program s passed) here r.fit.proper tt

  comes : (a : Stepped) → Step a → StepsTo s a m m' after applies.state
  comes a q = rw (sound applies.step) at q

  pub reached_on : (c' : code.Control) (h' : Registers) → Step (Went c' h') → Reached s n d σ (k + 1) c' h' m' R
  unfolding StepsTo
  reached_on c' h' q =
      let o = comes (Went c' h') q in
      let f = stays_fit s bytes passed r.fit applies.step ((limits_say applies.state).so o.limits) in
      let e = sound applies.step in
      record {
        environment = o.environment;
        function = o.function;
        variables = o.variables;
        frames = o.frames;
        callers = o.callers;
        held = o.held;
        describes = o.describes;
        fit = rw o.is at f;
        then = λ x st l z. r.then x st l (ends_step (program_of s) n k here applies.state applies.rule less e o.limits (rw o.is z));
      }

  -- what follows is stored in the memory l
  pub reached_full : Step Full → (l : List ℕ) → (m' ≡ m → l ≡ image here ++ R) → Ends d (run_of (program_of s) (n - d) σ) outcome.Full k l R
  unfolding StepsTo
  reached_full q l i =
      let o = comes Full q in
      r.then outcome.Full k l (ends_full (program_of s) n k here applies.state applies.rule less (sound applies.step) o.0 (i o.1))

  pub reached_returned : (w : ℕ) → Step (Returned w) → (o : Outcome) (st : ℕ) (l : List ℕ)
      → ((α : RunEnv) → Entry (program_of s) α.entry → Emptied m' (env_words α ++ R) → Ends (k + 1) (run_of (program_of s) (n - (k + 1)) (machine.returned α w)) o st l R)
      → Ends d (run_of (program_of s) (n - d) σ) o st l R
  unfolding StepsTo
  reached_returned w q o st l i =
      let z = comes (Returned w) q in
      let α = z.environment in
      let e : next (program_of s) here ≡ goes applies.rule (machine.returned α w) = sound applies.step ∙ ap (goes applies.rule) z.is in
      let u : WithinLimits applies.state = rw z.is tt in
      let f : Fit (program_of s) (machine.returned α w) = rw z.is at (stays_fit s bytes passed r.fit applies.step u) in
      r.then o st l (ends_step (program_of s) n k here (machine.returned α w) applies.rule less e refl (i α f.proper z.held))

  -- what follows the image is kept by an exception
  wiped : Cleared m m' → Wiped m' R
  wiped c z all =
      let a : length r.callers < 32 = omega (arith, r.fit.within.0) in
      let b : length (r.frames ++ saved_frames r.callers) ≤ 512 = omega (arith, r.fit.within.1, length-append r.frames (saved_frames r.callers), length_frames r.callers) in
      c z all ∙ ap (λ (t : List ℕ). replicate z 0 ++ t) (rw r.held (past_core r.function r.variables r.frames r.callers a b r.environment R z all))

  -- the end by an exception
  raised_at : (x : machine.Exception) → Raises x m m' applies.state → (l : List ℕ) → (Wiped m' R → l ≡ image (machine.exception x) ++ R)
      → Ends d (run_of (program_of s) (n - d) σ) (outcome_of (raised x)) (k + 1) l R
  raised_at x z l i =
      let e : next (program_of s) here ≡ goes applies.rule (machine.exception x) = sound applies.step ∙ ap (goes applies.rule) z.0 in
      r.then (outcome_of (raised x)) (k + 1) l (ends_step (program_of s) n k here (machine.exception x) applies.rule less e refl (ends_raised (program_of s) n (k + 1) x l R (i (wiped z.1))))

  pub reached_arith : Step Arith → (l : List ℕ) → (Wiped m' R → l ≡ image (machine.exception machine.arith) ++ R) → Ends d (run_of (program_of s) (n - d) σ) outcome.Arith (k + 1) l R
  unfolding StepsTo outcome_of
  reached_arith q l i = raised_at machine.arith (comes Arith q) l i

  pub reached_abort : Step Abort → (l : List ℕ) → (Wiped m' R → l ≡ image (machine.exception machine.abort) ++ R) → Ends d (run_of (program_of s) (n - d) σ) outcome.Abort (k + 1) l R
  unfolding StepsTo outcome_of
  reached_abort q l i = raised_at machine.abort (comes Abort q) l i

-- its limits
pub reached_bounds : (s : List ℕ) (n d : ℕ) (σ : State) (k : ℕ) (c : code.Control) (h : Registers) (m R : List ℕ) → Reached s n d σ k c h m R → 16384 ≤ length m → Bounds h m
reached_bounds s n d σ k c h m R r l = let q = limited r.describes r.fit in (l, q.0, q.1)
