-- A running state in a memory, and the answer to it.
use Rattle.std.specs.Prelude.{◌≡◌, Bool, true, List, ◌++◌, ℕ, ◌≤◌, length, get_or}
use Rattle.spec_language.specs.Check.{accepted, check_of}
use Rattle.spec_machine.specs.Machine.{State}
use Rattle.spec_machine.specs.Fit.{WithinLimits}
use Rattle.spec_machine.specs.File.{program_of}
use Rattle.spec_machine.specs.Test.{fit, is_entry}
use Rattle.spec_image.specs.Sizes.{entry_at, size}
use Rattle.spec_image.specs.Image.{image}
use Rattle.spec_image.specs.Narrow.{Narrow}
use Rattle.fit_state.specs.HoldsState.{HoldsState}

-- the file is accepted, and the memory holds a running state whose run may be started with the entry function that it names
pub record RunningIn (file m : List ℕ) : Type 0 where
  pub passed : check_of file ≡ accepted
  pub whole : size ≤ length m
  pub holds : HoldsState m
  pub tag : get_or m 0 0 ≡ 2
  pub entry : is_entry (program_of file) (get_or m entry_at 0) ≡ true

-- the answer to the state that the memory holds
abbrev pub FitAnswer : List ℕ → List ℕ → Bool → Type 0
FitAnswer file m b = (s : State) (R : List ℕ) → m ≡ image s ++ R → WithinLimits s → Narrow s → b ≡ fit (program_of file) s
