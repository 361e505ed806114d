-- The state that words stand for, whatever they are.
use Rattle.std.specs.Prelude.{List, [], ◌∷◌, ℕ, zero, suc, ◌*◌, ◌/◌, ◌%◌, eqb, get_or, take, drop}
use Rattle.std.proofs.Math.Option.{none, some}
use Rattle.varset.specs.Lowest.{pick}
use Rattle.spec_machine.specs.Values.{Value, nothing, int, truth}
use Rattle.spec_machine.specs.Program.{Operation, op, fn, Ref, node, if_of, seq_of}
use Rattle.spec_machine.specs.Machine.{arith, abort, Frame, gather, and, wait, branch, check, Control, val, eval, exec, Saved, saved, RunEnv, State, exception, calling, main_call, returned, running}
use Rattle.words.specs.Stacks.{entries, total}
use Rattle.spec_image.specs.Sizes.{activation_size, frame_size, activations_at, frames_at, entry_at, slots_from, variables_from}
use Rattle.spec_image.specs.Layout.{Activation, activation}

-- a value by its type and its word
unfoldable pub value_of : ℕ → ℕ → Value
value_of type word = pick (eqb type 0) nothing (pick (eqb type 1) (int word) (truth (eqb word 1)))

-- n values, two words each
unfoldable pub values_of : ℕ → List ℕ → List Value
values_of zero l = []
values_of (suc n) l = value_of (get_or l 0 0) (get_or l 1 0) ∷ values_of n (drop 2 l)

-- n nodes, two words each
unfoldable pub nodes_of : ℕ → List ℕ → List ℕ
nodes_of zero l = []
nodes_of (suc n) l = get_or l 0 0 ∷ nodes_of n (drop 2 l)

-- a reference by its word
unfoldable pub ref_of : ℕ → Ref
ref_of zero = Ref.nop
ref_of (suc m) = pick (eqb (m % 3) 0) (node (m / 3)) (pick (eqb (m % 3) 1) (if_of (m / 3)) (seq_of (m / 3)))

-- a frame's operands
unfoldable pub operands : Operation → ℕ → ℕ → List ℕ → Frame
operands h n m slots = gather h (values_of n slots) (nodes_of m (drop (2 * n) slots))

-- the frames of kinds 1 to 9, from their three words and their slots; by frame
unfoldable pub frames : ℕ → ℕ → ℕ → List ℕ → List Frame
frames x y z slots =
    Frame.discard ∷ operands (op x) y z slots ∷ operands (fn x) y z slots ∷ and x ∷ wait (ref_of x) ∷ Frame.store x ∷ branch (ref_of x) (ref_of y) ∷ Frame.leave ∷ check ∷ []

-- a frame by its words
unfoldable pub frame_of : List ℕ → Frame
frame_of l = get_or (frames (get_or l 1 0) (get_or l 2 0) (get_or l 3 0) (drop slots_from l)) (get_or l 0 0) Frame.discard

-- a control by its form and its word
unfoldable pub control_of : ℕ → ℕ → Control
control_of form word =
    pick (eqb form 1) (val nothing)
    (pick (eqb form 2) (val (int word))
    (pick (eqb form 3) (val (truth (eqb word 1)))
    (pick (eqb form 4) (eval word)
    (exec (ref_of word)))))

-- an activation by its words
unfoldable pub activation_of : List ℕ → Activation
activation_of l = activation (get_or l 0 0) (get_or l 1 0) (values_of (get_or l 2 0) (drop variables_from l))

-- how many frames an activation has
unfoldable pub frames_held : Activation → ℕ
frames_held (activation f k η) = k

-- the callers, each with as many frames as it has
unfoldable pub callers_of : List Activation → List Frame → List Saved
callers_of [] K = []
callers_of (activation f k η ∷ rest) K = saved f η (take k K) ∷ callers_of rest (drop k K)

-- the running state of a control, its environment, its activations and their frames
unfoldable pub running_of : Control → RunEnv → List Activation → List Frame → State
running_of c α [] K = main_call
running_of c α (activation f k η ∷ rest) K = running c α f η (take k K) (callers_of rest (drop k K))

-- the first n activations of an image, the last first, and how many frames they have together
abbrev pub activations_to : List ℕ → ℕ → List Activation
activations_to m n = entries activation_size activation_of m activations_at n

abbrev pub held_in : List ℕ → ℕ → ℕ
held_in m n = total frames_held (activations_to m n)

-- the activations of an image, the current one first, and their frames
unfoldable pub activations_in : List ℕ → List Activation
activations_in m = activations_to m (get_or m 2 0)

unfoldable pub frames_in : List ℕ → List Frame
frames_in m = entries frame_size frame_of m frames_at (total frames_held (activations_in m))

-- the environment of an image
unfoldable pub env_of : List ℕ → RunEnv
env_of m = record { entry = get_or m entry_at 0 }

-- the states of tags 1 to 6 and 9
unfoldable pub states : List ℕ → List State
states m =
    main_call ∷ calling (env_of m) none
    ∷ running_of (control_of (get_or m 3 0) (get_or m 4 0)) (env_of m) (activations_in m) (frames_in m)
    ∷ returned (env_of m) (get_or m 1 0) ∷ State.value (get_or m 1 0) ∷ exception arith ∷ exception abort
    ∷ main_call ∷ main_call ∷ calling (env_of m) (some (get_or m 1 0)) ∷ []

-- the state that the words m stand for
unfoldable pub state_of : List ℕ → State
state_of m = get_or (states m) (get_or m 0 0) main_call
