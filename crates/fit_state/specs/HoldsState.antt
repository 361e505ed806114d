-- A memory that holds the image of a state within the limits.
use Rattle.std.specs.Prelude.{◌≡◌, List, ◌++◌, ℕ}
use Rattle.spec_machine.specs.Machine.{State}
use Rattle.spec_machine.specs.Fit.{WithinLimits}
use Rattle.spec_image.specs.Image.{image}
use Rattle.spec_image.specs.Narrow.{Narrow}

-- the state, and the words after its image
pub record HoldsState (l : List ℕ) : Type 0 where
  pub state : State
  pub rest : List ℕ
  pub held : l ≡ image state ++ rest
  pub within : WithinLimits state
  pub narrow : Narrow state
