-- A logged run in lent memory, and the memory after a step back.
use Rattle.std.specs.Prelude.{◌≡◌, Bool, true, false, Result, Ok, Err, List, ◌++◌, ℕ, ◌+◌, ◌-◌, leb, length, drop}
use Rattle.varset.specs.Lowest.{pick}
use Rattle.words.specs.Blocks.{puts}
use Rattle.spec_machine.specs.Program.{Program}
use Rattle.spec_machine.specs.Machine.{State}
use Rattle.spec_machine.specs.Run.{Ran, run_of}
use Rattle.spec_image.specs.Sizes.{size}
use Rattle.spec_image.specs.Image.{image}
use Rattle.spec_log.specs.Records.{record_of}
use Rattle.spec_log.specs.Logged as spec
use Rattle.spec_log.specs.Answers.{words_before}
use Rattle.run_loop.specs.declared.Outcome.{Outcome}
use Rattle.run_loop.specs.Runs.{outcome_of}
use Rattle.log_records.specs.Ranges.{Within}
use Rattle.log_records.specs.declared.extent.Extent.{Extent}
use Rattle.entry_log.specs.declared.Stop.{Stop}
use Rattle.entry_log.specs.declared.Stop.TheVariants.{Ended, LogFull}
use Rattle.entry_log.specs.declared.LoggedStep.{LoggedStep}
use Rattle.entry_log.specs.Replies.{stop_of}

module _ (P : Program) (s : State) (R log : List ℕ) (used : ℕ) where
  -- the run of one step, and its record
  abbrev one : Ran
  one = run_of P 1 s

  abbrev step : List ℕ
  step = record_of (image s) (image one.state)

  -- the step was taken and its record put; the memory, its copy and the extent are those of the state after it
  pub record Taken (extent : Extent) (bytes : ℕ) (m before log' : List ℕ) : Type 0 where
    pub stepped : one.steps ≡ 1
    pub fits : leb (length step) (length log - used) ≡ true
    pub long : bytes ≡ length step
    pub held : m ≡ image one.state ++ R
    pub copied : before ≡ image one.state
    pub within : Within extent.low extent.high before
    pub logged : log' ≡ puts log used 0 step

  -- there is no step
  pub record Standing (outcome : Outcome) (m log' : List ℕ) : Type 0 where
    pub stood : one.steps ≡ 0
    pub outcome_is : outcome ≡ outcome_of one.outcome
    pub held : m ≡ image s ++ R
    pub logged : log' ≡ log

  -- there is one, whose record has no room
  pub record Crowded (m log' : List ℕ) : Type 0 where
    pub stepped : one.steps ≡ 1
    pub large : leb (length step) (length log - used) ≡ false
    pub held : m ≡ image s ++ R
    pub logged : log' ≡ log

  -- by what the code says of it
  abbrev pub StepLogged : Result LoggedStep Stop → List ℕ → List ℕ → List ℕ → Type 0
  StepLogged (Ok taken) m before log' = Taken taken.extent taken.bytes m before log'
  StepLogged (Err (Ended outcome)) m before log' = Standing outcome m log'
  StepLogged (Err LogFull) m before log' = Crowded m log'

-- stop, steps, used length, memory and log of a logged run, after k steps before it
pub record Stops (k : ℕ) (q : spec.Logged) (stop : Stop) (steps used : ℕ) (m R log : List ℕ) : Type 0 where
  pub stop_is : stop ≡ stop_of q.stop
  pub steps_are : steps ≡ k + q.steps
  pub used_is : used ≡ q.used
  pub held : m ≡ image q.state ++ R
  pub logged : log ≡ q.log

-- the words before the step in the memory, where it is taken back
unfoldable pub went_back : Bool → List ℕ → List ℕ → ℕ → List ℕ
went_back back m log used = pick back (words_before m log used ++ drop size m) m
