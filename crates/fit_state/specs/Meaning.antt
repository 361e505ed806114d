-- What the code's values stand for, and where the activations and frames of a memory lie.
use Rattle.std.specs.Prelude.{◌≡◌, Bool, ◌&&◌, List, ℕ, ◌+◌, ◌*◌, drop, Option, is_some, IfSome}
use Rattle.varset.specs.Sets.{Set, has}
use Rattle.words.specs.Stacks.{block_at, entries}
use Rattle.spec_machine.specs.Values.{Value}
use Rattle.spec_machine.specs.Program.{Program, var_types}
use Rattle.spec_machine.specs.Machine.{Frame}
use Rattle.spec_machine.specs.Fit.{held}
use Rattle.spec_machine.specs.Test.{all_hold_typed}
use Rattle.spec_image.specs.Layout.{Activation}
use Rattle.spec_image.specs.Decode.{values_of, frame_of, activation_of}
use Rattle.state_words.specs.Meaning.{control_is}
use Rattle.varset.specs.declared.VarSet.{VarSet}
use Rattle.fit_frames.specs.declared.Received.{Received}
use Rattle.fit_frames.specs.Meaning.{incoming_is}
use Rattle.fit_state.specs.declared.Over as code
use Rattle.fit_state.specs.declared.Over.TheVariants.{Running, Calling}
use Rattle.fit_state.specs.Activations.{Over, at, calls, over_ok, handed, frames_fit}
use Rattle.spec_image.specs.Sizes.{activation_size, frame_size, activations_at, frames_at, variables_from}

-- what stands over an activation's frames
abbrev pub over_is : code.Over → Over
over_is (Running c) = at (control_is c)
over_is (Calling t) = calls t

-- the answer to what stands over the frames
pub record OverAnswer (P : Program) (f : ℕ) (d : Set) (o : Over) (r : Option Received) : Type 0 where
  pub ok : is_some r ≡ over_ok P f d o
  pub on : IfSome r (λ w. incoming_is w ≡ handed P f d o)

-- the first v variables of the activation with a activations under it
abbrev pub variables_in : List ℕ → ℕ → ℕ → List Value
variables_in m a v = values_of v (drop variables_from (block_at activation_size m activations_at a))

-- the answer to its variables
pub record VariablesAnswer (P : Program) (f : ℕ) (η : List Value) (r : Option VarSet) : Type 0 where
  pub ok : is_some r ≡ all_hold_typed η (var_types (P.fun f))
  pub set : IfSome r (λ d. has d.0 ≡ held η)

-- the activation with a activations under it
abbrev pub activation_in : List ℕ → ℕ → Activation
activation_in m a = activation_of (block_at activation_size m activations_at a)

-- the first n frames, the last first
abbrev pub frames_to : List ℕ → ℕ → List Frame
frames_to m n = entries frame_size frame_of m frames_at n

-- the activation with a activations under it, of function f with v variables, is fit with its k frames over the first low
abbrev pub stored_fit : Program → ℕ → List ℕ → ℕ → ℕ → ℕ → ℕ → Over → Bool
stored_fit P f m a v low k o =
    all_hold_typed (variables_in m a v) (var_types (P.fun f)) && frames_fit P f (held (variables_in m a v)) o (entries frame_size frame_of m (frames_at + low * frame_size) k)
