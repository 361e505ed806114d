-- One logged step: what the run of one step, the count of changes and the room of the log make of it.
use mathlib.Core.Path.{◌≡◌, refl, sym, ap, ◌∙◌}
use mathlib.Core.Bool.{true, false}
use mathlib.Core.Logic.{◌⊎◌, inl, inr}
use mathlib.Core.List.{List, ◌++◌}
use Prim.Native.Nat.{ℕ, ◌+◌, ◌-◌, ◌≤◌, ◌<◌}
use native.Mathlib.Omega.{arith}
use lib.Dec.{leb}
use lib.ListN.{length, take, drop, length-append}
use borrow.Author.Tests.{le-leb, lt-leb}
use Rattle.words.specs.Blocks.{puts}
use Rattle.spec_language.specs.Check.{accepted, check_of}
use Rattle.spec_machine.specs.Machine.{State}
use Rattle.spec_machine.specs.Fit.{Fit}
use Rattle.spec_machine.specs.Run.{Ran, all_held, run_of}
use Rattle.spec_machine.specs.File.{program_of}
use Rattle.spec_machine.proofs.Files.{accepted_program}
use Rattle.spec_machine.proofs.KeepWords.{Bytes, file_words}
use Rattle.spec_machine.proofs.Runs.{Good, ran}
use Rattle.spec_image.specs.Sizes.{size}
use Rattle.spec_image.specs.Image.{image}
use Rattle.spec_image.proofs.Images.{env_in, part_zero, image_length}
use Rattle.spec_image.proofs.Sized.{file_sized, fit_narrow}
use Rattle.spec_image.proofs.Memory.{whole_held}
use Rattle.spec_log.specs.Changes.{changes}
use Rattle.spec_log.specs.Records.{record_of}
use Rattle.spec_log.proofs.Records.{record_least}
use Rattle.spec_log.proofs.OneStep.{steps_few, no_step}
use Rattle.fit_state.specs.HoldsState.{HoldsState}
use Rattle.run_loop.specs.declared.Outcome.{Outcome}
use Rattle.run_loop.specs.Runs.{HoldsFit, Ends, outcome_of}
use Rattle.log_records.specs.Ranges.{NoEnv, Within}
use Rattle.log_records.specs.declared.extent.Extent.{Extent}
use Rattle.entry_log.specs.Logs.{Taken, Standing, Crowded}

-- a memory that begins with an image
pub first_words : (s : State) {m : List ℕ} (R b : List ℕ) → Fit (program_of b) s → m ≡ image s ++ R → take size m ≡ image s
first_words s {m} R b f e = ap (λ (l : List ℕ). take size l) e ∙ (whole_held s R f.within).0

later_words : (s : State) {m : List ℕ} (R b : List ℕ) → Fit (program_of b) s → m ≡ image s ++ R → drop size m ≡ R
later_words s {m} R b f e = ap (λ (l : List ℕ). drop size l) e ∙ (whole_held s R f.within).1

long_enough : (s : State) {m : List ℕ} (R b : List ℕ) → Fit (program_of b) s → m ≡ image s ++ R → size ≤ length m
long_enough s {m} R b f e = omega (arith, ap length e ∙ length-append (image s) R, image_length s f.within)

pub state_held : (b : List ℕ) → check_of b ≡ accepted → (s : State) {m : List ℕ} (R : List ℕ) → Fit (program_of b) s → m ≡ image s ++ R → HoldsState m
state_held b c s {m} R f e = record { state = s; rest = R; held = e; within = f.within; narrow = fit_narrow (program_of b) (file_sized b c) s f }

pub no_env : (s : State) {m : List ℕ} (R b : List ℕ) → Fit (program_of b) s → m ≡ image s ++ R → NoEnv m
no_env s R b f e = rw e (env_in s R f.within ∙ part_zero (program_of b) s f.proper)

module _ (b : List ℕ) (small : Bytes b) (c : check_of b ≡ accepted) (s : State) (R : List ℕ) (f : Fit (program_of b) s) where
  abbrev one : Ran
  one = run_of (program_of b) 1 s

  good : Good (program_of b) s (all_held s) 1 one
  good = ran (accepted_program b c) (file_words b small) 1 s (all_held s) f refl

  pub one_fit : Fit (program_of b) one.state
  one_fit = good.fit

  module _ {o : Outcome} {n : ℕ} {m : List ℕ} (e : Ends 0 one o n m R) where
    pub stepped : ¬ (n ≡ 0) → one.steps ≡ 1
    stepped h = omega (arith, h, e.steps_are, steps_few good.runs)

    -- the memory after the step
    pub after_words : take size m ≡ image one.state
    after_words = first_words one.state R b one_fit e.held

    pub after_state : HoldsState m × (size ≤ length m) × NoEnv m
    after_state = (state_held b c one.state R one_fit e.held, long_enough one.state R b one_fit e.held, no_env one.state R b one_fit e.held)

    -- where the run stands
    pub stood : (log : List ℕ) (used : ℕ) → n ≡ 0 → Standing (program_of b) s R log used o m log
    stood log used h =
        let z : one.steps ≡ 0 = omega (arith, h, e.steps_are) in
        record { stood = z; outcome_is = e.outcome_is; held = e.held ∙ ap (λ (t : State). image t ++ R) (sym (no_step good.runs z).0); logged = refl }

    module _ (log : List ℕ) (used : ℕ) {before : List ℕ} {bytes : ℕ} (h : ¬ (n ≡ 0)) (w : before ≡ image s) (l : bytes ≡ length (record_of before (take size m))) where
      abbrev record' : List ℕ
      record' = record_of (image s) (image one.state)

      record_is : record_of before (take size m) ≡ record'
      record_is = rw (w, after_words) refl

      least : 4 ≤ length record'
      least = record_least (image s) (image one.state) (image_length s f.within)

      -- the log has no room
      pub crowded : {X : List ℕ} → (length log < used) ⊎ (length log - used < bytes) → X ≡ before → Crowded (program_of b) s R log used (X ++ drop size m) log
      crowded {X} r i =
          let y : bytes ≡ length record' = l ∙ ap length record_is in
          let z : length log - used < length record' = short r y in
          record { stepped = stepped h; large = lt-leb (length record') (length log - used) z; held = rw (i ∙ w, later_words one.state R b one_fit e.held) refl; logged = refl }
        where
          short : (length log < used) ⊎ (length log - used < bytes) → bytes ≡ length record' → length log - used < length record'
          short (inl x) y = omega (arith, x, least)
          short (inr x) y = omega (arith, x, y)

      -- it has
      pub room : used ≤ length log → bytes ≤ length log - used → used + length (record_of before (take size m)) ≤ length log
      room i j = omega (arith, l)

      pub taken : {x : Extent} {before' log' : List ℕ} → used ≤ length log → bytes ≤ length log - used → Within x.low x.high (take size m) → before' ≡ take size m
          → log' ≡ puts log used 0 (record_of before (take size m)) → Taken (program_of b) s R log used x bytes m before' log'
      taken {x} {before'} {log'} i j v q p =
          let y : bytes ≡ length record' = l ∙ ap length record_is in
          record {
            stepped = stepped h;
            fits = le-leb (length record') (length log - used) (omega (arith, j, y));
            long = y;
            held = e.held;
            copied = q ∙ after_words;
            within = rw q v;
            logged = rw record_is at p;
          }
