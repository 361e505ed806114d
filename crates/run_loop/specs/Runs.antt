-- Runs in lent memory: what they begin from, and what they answer and leave.
use Rattle.std.specs.Prelude.{◌≡◌, List, [], ◌∷◌, ◌++◌, ℕ, ◌+◌, replicate}
use Rattle.std.proofs.Math.Option.{none}
use Rattle.arith.specs.Int.{int}
use Rattle.spec_language.specs.Check.{accepted, check_of}
use Rattle.spec_machine.specs.Values as values
use Rattle.spec_machine.specs.Machine.{arith, abort, Frame, Control, Saved, RunEnv, State, calling, running}
use Rattle.spec_machine.specs.Run as run
use Rattle.spec_machine.specs.Run.{Ran, raised}
use Rattle.spec_machine.specs.Fit.{Fit}
use Rattle.spec_machine.specs.File.{program_of}
use Rattle.spec_image.specs.Layout.{filled}
use Rattle.spec_image.specs.Image.{head_words, activations_of, frames_of, image}
use Rattle.spec_image.specs.Core.{HoldingRun}
use Rattle.run_rules.specs.declared.Registers.{Registers}
use Rattle.run_rules.specs.StepsTo.{Describes}
use Rattle.run_loop.specs.declared.Outcome.{Outcome}
use Rattle.run_loop.specs.declared.Outcome.TheVariants.{Value, Arith, Abort, Spent, Full}
use Rattle.spec_image.specs.Sizes.{head_size, env_at, size}

-- the outcomes as the code has them: the int of a value is signed
unfoldable pub outcome_of : run.Outcome → Outcome
outcome_of (run.Outcome.value c) = Value (int c)
outcome_of (raised arith) = Arith
outcome_of (raised abort) = Abort
outcome_of run.Spent = Spent
outcome_of run.Full = Full

-- the file is accepted, and the memory holds the image of a fit state
pub record HoldsFit (s l : List ℕ) : Type 0 where
  pub passed : check_of s ≡ accepted
  pub state : State
  pub rest : List ℕ
  pub held : l ≡ image state ++ rest
  pub fit : Fit (program_of s) state

-- the same of main() with nothing waiting, and of a running state
pub record AtMain (s l : List ℕ) : Type 0 where
  pub passed : check_of s ≡ accepted
  pub environment : RunEnv
  pub rest : List ℕ
  pub held : l ≡ image (calling environment none) ++ rest
  pub fit : Fit (program_of s) (calling environment none)

pub record AtRunning (s l : List ℕ) : Type 0 where
  pub passed : check_of s ≡ accepted
  pub control : Control
  pub environment : RunEnv
  pub function : ℕ
  pub variables : List values.Value
  pub frames : List Frame
  pub callers : List Saved
  pub rest : List ℕ
  pub held : l ≡ image (running control environment function variables frames callers) ++ rest
  pub fit : Fit (program_of s) (running control environment function variables frames callers)

-- outcome, steps and memory of a run, after k steps before it
pub record Ends (k : ℕ) (q : Ran) (outcome : Outcome) (steps : ℕ) (m R : List ℕ) : Type 0 where
  pub outcome_is : outcome ≡ outcome_of q.outcome
  pub steps_are : steps ≡ k + q.steps
  pub held : m ≡ image q.state ++ R

-- all words are zero but the environment's: what follows them is R
abbrev pub Emptied : List ℕ → List ℕ → Type 0
Emptied m R = (z : ℕ) → z ≡ env_at → m ≡ replicate z 0 ++ R

-- all words of the state are zero: what follows them is R
abbrev pub Wiped : List ℕ → List ℕ → Type 0
Wiped m R = (z : ℕ) → z ≡ size → m ≡ replicate z 0 ++ R

-- of every running state that the memory l, with its environment, and the registers h hold
abbrev pub HoldingState : List ℕ → List ℕ → Registers → (RunEnv → ℕ → List values.Value → List Frame → List Saved → List ℕ → Type 0) → Type 0
HoldingState s l h say = HoldingRun l (λ α f η K A R. Describes s h f K A → say α f η K A R)

-- a state with no activation, by the two words of its head
pub record Rests (s : State) (tag word : ℕ) : Type 0 where
  pub head : filled head_size (head_words s) ≡ filled head_size (tag ∷ word ∷ [])
  pub activations : activations_of s ≡ []
  pub frames : frames_of s ≡ []
