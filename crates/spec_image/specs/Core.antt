-- The words of a running state while it runs, but for its environment: the head and the current activation's frame count are kept elsewhere, and are zero here.
use Rattle.std.specs.Prelude.{◌≡◌, List, ◌∷◌, ◌++◌, ℕ, replicate}
use Rattle.words.specs.Stacks.{region}
use Rattle.spec_machine.specs.Values.{Value}
use Rattle.spec_machine.specs.Machine.{Frame, Saved, RunEnv}
use Rattle.spec_image.specs.Sizes.{head_size, activation_size, caller_room, frame_size, frame_room}
use Rattle.spec_image.specs.Layout.{frame_words, activation, activation_words, env_words}
use Rattle.spec_image.specs.Image.{saved_activations, saved_frames}

-- of function f with the variables η and the frames K, over the saved callers A
unfoldable pub core : ℕ → List Value → List Frame → List Saved → List ℕ
core f η K A =
    replicate head_size 0
    ++ (region activation_size activation_words caller_room (activation f 0 η ∷ saved_activations A) ++ region frame_size frame_words frame_room (K ++ saved_frames A))

-- of every running state whose words the memory l begins with, its environment being among the rest
abbrev pub HoldingCore : List ℕ → (ℕ → List Value → List Frame → List Saved → List ℕ → Type 0) → Type 0
HoldingCore l say = (f : ℕ) (η : List Value) (K : List Frame) (A : List Saved) (R : List ℕ) → l ≡ core f η K A ++ R → say f η K A R

-- the same of every one with a frame on top
abbrev pub HoldingTopCore : List ℕ → (ℕ → List Value → Frame → List Frame → List Saved → List ℕ → Type 0) → Type 0
HoldingTopCore l say = (f : ℕ) (η : List Value) (fr : Frame) (K : List Frame) (A : List Saved) (R : List ℕ) → l ≡ core f η (fr ∷ K) A ++ R → say f η fr K A R

-- of every running state that the memory l begins with, the environment after its other words
abbrev pub HoldingRun : List ℕ → (RunEnv → ℕ → List Value → List Frame → List Saved → List ℕ → Type 0) → Type 0
HoldingRun l say = (α : RunEnv) (f : ℕ) (η : List Value) (K : List Frame) (A : List Saved) (R : List ℕ) → l ≡ core f η K A ++ (env_words α ++ R) → say α f η K A R
