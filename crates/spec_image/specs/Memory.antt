-- Question 16: the first 16,384 words of a memory hold the image of a fit state.
use Rattle.std.specs.Prelude.{◌≡◌, Bool, ◌&&◌, List, ℕ, take}
use Rattle.words.specs.Blocks.{eq_words}
use Rattle.spec_machine.specs.Program.{Program}
use Rattle.spec_machine.specs.Machine.{State}
use Rattle.spec_machine.specs.Test.{fit}
use Rattle.spec_image.specs.Sizes.{size}
use Rattle.spec_image.specs.Image.{image}
use Rattle.spec_image.specs.Decode.{state_of}

-- the memory holds the image of the state
abbrev pub Holds : List ℕ → State → Type 0
Holds m s = take size m ≡ image s

-- the test: the words are the image of the state that they stand for, and that state is fit
unfoldable pub fit_words : Program → List ℕ → Bool
fit_words P m = eq_words (take size m) (image (state_of m)) && fit P (state_of m)
