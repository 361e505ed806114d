-- The image of a state.
use Rattle.std.specs.Prelude.{List, [], ◌∷◌, ◌++◌, ℕ, suc, ◌+◌, length, replicate}
use Rattle.std.proofs.Math.Option.{none, some}
use Rattle.words.specs.Stacks.{region}
use Rattle.spec_machine.specs.Machine.{Exception, arith, abort, Frame, Saved, saved, State, exception, calling, returned, running}
use Rattle.spec_image.specs.Sizes.{head_size, activation_size, caller_room, frame_size, frame_room, env_size}
use Rattle.spec_image.specs.Layout.{filled, frame_words, control_words, Activation, activation, activation_words, env_words}

-- the activations, the current one first
unfoldable pub saved_activations : List Saved → List Activation
saved_activations [] = []
saved_activations (saved g θ L ∷ A) = activation g (length L) θ ∷ saved_activations A

-- the frames of all activations, the current one's first
unfoldable pub saved_frames : List Saved → List Frame
saved_frames [] = []
saved_frames (saved g θ L ∷ A) = L ++ saved_frames A

-- the tags of the exceptions
abbrev pub exception_tag : Exception → ℕ
exception_tag arith = 5
exception_tag abort = 6

-- the head: a tag, an int, the number of activations, the control
unfoldable pub head_words : State → List ℕ
head_words (State.value c) = 4 ∷ c ∷ []
head_words (exception x) = exception_tag x ∷ []
head_words (calling α none) = 1 ∷ []
head_words (calling α (some n)) = 9 ∷ n ∷ []
head_words (returned α c) = 3 ∷ c ∷ []
head_words (running c α f η K A) = 2 ∷ 0 ∷ suc (length A) ∷ control_words c

-- the activations and frames of a state
unfoldable pub activations_of : State → List Activation
activations_of (State.value c) = []
activations_of (exception x) = []
activations_of (calling α o) = []
activations_of (returned α c) = []
activations_of (running c α f η K A) = activation f (length K) η ∷ saved_activations A

unfoldable pub frames_of : State → List Frame
frames_of (State.value c) = []
frames_of (exception x) = []
frames_of (calling α o) = []
frames_of (returned α c) = []
frames_of (running c α f η K A) = K ++ saved_frames A

-- the environment of a state, of which a final one has none
unfoldable pub env_part : State → List ℕ
env_part (State.value c) = replicate env_size 0
env_part (exception x) = replicate env_size 0
env_part (calling α o) = env_words α
env_part (returned α c) = env_words α
env_part (running c α f η K A) = env_words α

-- the head, the activations, the frames, each in its room, and the environment: 16,384 words
unfoldable pub image : State → List ℕ
image s =
    filled head_size (head_words s)
    ++ (region activation_size activation_words caller_room (activations_of s) ++ (region frame_size frame_words frame_room (frames_of s) ++ env_part s))
