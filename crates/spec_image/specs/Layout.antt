-- The words of values, references, frames and activations.
use Rattle.std.specs.Prelude.{Bool, true, false, List, [], ◌∷◌, ◌++◌, ℕ, ◌+◌, ◌*◌, take, replicate, length}
use Rattle.spec_machine.specs.Values.{Value, nothing, int, truth}
use Rattle.spec_machine.specs.Program.{Operation, op, fn, Ref, node, if_of, seq_of}
use Rattle.spec_machine.specs.Machine.{Frame, gather, and, wait, branch, check, Control, val, eval, exec, RunEnv}
use Rattle.spec_image.specs.Sizes.{activation_size, frame_size, env_size}

-- a list of words brought to w words, with zeros after it
unfoldable pub filled : ℕ → List ℕ → List ℕ
filled w l = take w (l ++ replicate w 0)

unfoldable pub bit : Bool → ℕ
bit true = 1
bit false = 0

-- a value: its type, and its word; nothing is two zeros
unfoldable pub value_words : Value → List ℕ
value_words nothing = 0 ∷ 0 ∷ []
value_words (int n) = 1 ∷ n ∷ []
value_words (truth b) = 2 ∷ bit b ∷ []

unfoldable pub values_words : List Value → List ℕ
values_words [] = []
values_words (v ∷ vs) = value_words v ++ values_words vs

-- nodes, two words each as values are
unfoldable pub nodes_words : List ℕ → List ℕ
nodes_words [] = []
nodes_words (n ∷ ns) = n ∷ 0 ∷ nodes_words ns

-- a statement's reference: nop is 0, and a node has three forms
unfoldable pub ref_word : Ref → ℕ
ref_word Ref.nop = 0
ref_word (node n) = 1 + 3 * n
ref_word (if_of n) = 2 + 3 * n
ref_word (seq_of n) = 3 + 3 * n

-- a frame: its kind, three words, and up to seven values and nodes
unfoldable pub block : ℕ → ℕ → ℕ → ℕ → List ℕ → List ℕ
block kind x y z slots = filled frame_size (kind ∷ x ∷ y ∷ z ∷ slots)

unfoldable pub gathering : Operation → List Value → List ℕ → List ℕ
gathering (op o) vs ns = block 1 o (length vs) (length ns) (values_words vs ++ nodes_words ns)
gathering (fn g) vs ns = block 2 g (length vs) (length ns) (values_words vs ++ nodes_words ns)

-- the words of a frame; by frame
unfoldable pub frame_words : Frame → List ℕ
frame_words (gather h vs ns) = gathering h vs ns
frame_words (and n) = block 3 n 0 0 []
frame_words (wait r) = block 4 (ref_word r) 0 0 []
frame_words (Frame.store x) = block 5 x 0 0 []
frame_words (branch a b) = block 6 (ref_word a) (ref_word b) 0 []
frame_words Frame.leave = block 7 0 0 0 []
frame_words check = block 8 0 0 0 []
frame_words Frame.discard = block 9 0 0 0 []

-- the control: its form and its word
unfoldable pub control_words : Control → List ℕ
control_words (val nothing) = 1 ∷ 0 ∷ []
control_words (val (int n)) = 2 ∷ n ∷ []
control_words (val (truth b)) = 3 ∷ bit b ∷ []
control_words (eval n) = 4 ∷ n ∷ []
control_words (exec r) = 5 ∷ ref_word r ∷ []

-- the environment of a run: a zero, the entry function, and zeros
unfoldable pub env_words : RunEnv → List ℕ
env_words α = filled env_size (0 ∷ α.entry ∷ [])

-- an activation: its function, how many frames it has, and its variables
pub data Activation : Type 0 where
  activation : ℕ → ℕ → List Value → Activation

-- an activation: function, frame count, variable count, five zeros, and up to 64 variables of two words
unfoldable pub activation_words : Activation → List ℕ
activation_words (activation f k η) = filled activation_size (f ∷ k ∷ length η ∷ 0 ∷ 0 ∷ 0 ∷ 0 ∷ 0 ∷ values_words η)
