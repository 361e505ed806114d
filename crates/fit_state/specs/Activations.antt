-- The activations of a running state, tested from the current one down, and the entry function of a state.
use Rattle.std.specs.Prelude.{Bool, true, ◌&&◌, List, [], ◌∷◌, map, ℕ, eqb, take, drop}
use Rattle.varset.specs.Sets.{Set}
use Rattle.words.specs.Stacks.{chain}
use Rattle.spec_machine.specs.Values.{Ty, type_v}
use Rattle.spec_machine.specs.Program.{Program, var_types}
use Rattle.spec_machine.specs.Machine.{Frame, Control, State, exception, calling, returned, running, arguments}
use Rattle.spec_machine.specs.Fit.{held}
use Rattle.spec_machine.specs.Test.{are_ty, has_function, all_hold_typed, is_entry}
use Rattle.spec_image.specs.Layout.{Activation, activation}
use Rattle.fit_frames.specs.Incoming.{Incoming, giving, frame_fits, hands_on, ends, start_ok, start}

-- what stands over an activation's frames: the control, or a callee that gives a result of a type
pub data Over : Type 0 where
  at : Control → Over
  calls : Ty → Over

-- its test, and what it hands to the top frame
abbrev pub over_ok : Program → ℕ → Set → Over → Bool
over_ok P f d (at c) = start_ok P f d c
over_ok P f d (calls t) = true

abbrev pub handed : Program → ℕ → Set → Over → Incoming
handed P f d (at c) = start P f d c
handed P f d (calls t) = giving t d

-- the frames of an activation of f whose variables with values are d
abbrev pub frames_fit : Program → ℕ → Set → Over → List Frame → Bool
frames_fit P f d o K = over_ok P f d o && chain (frame_fits P f) (hands_on P f) ends (handed P f d o) K

-- an activation, its frames first among F
abbrev pub activation_fit : Program → Over → Activation → List Frame → Bool
activation_fit P o (activation f k η) F = has_function P f && (all_hold_typed η (var_types (P.fun f)) && frames_fit P f (held η) o (take k F))

-- the function of an activation
abbrev pub function_of : Activation → ℕ
function_of (activation f k η) = f

-- the frames under it
abbrev pub frames_under : Activation → List Frame → List Frame
frames_under (activation f k η) F = drop k F

-- the callers of function f, the last first; the outermost is the entry function e
abbrev pub callers_fit : Program → ℕ → ℕ → List Activation → List Frame → Bool
callers_fit P e f [] F = eqb f e
callers_fit P e f (x ∷ X) F = activation_fit P (calls (P.fun f).result) x F && callers_fit P e (function_of x) X (frames_under x F)

-- the activations under a control
abbrev pub running_fit : Program → ℕ → Control → List Activation → List Frame → Bool
running_fit P e c [] F = true
running_fit P e c (x ∷ X) F = activation_fit P (at c) x F && callers_fit P e (function_of x) X (frames_under x F)

-- a run may be started with the entry function, and its call has the arguments that it takes
abbrev pub entry_fit : Program → State → Bool
entry_fit P (State.value c) = true
entry_fit P (exception x) = true
entry_fit P (calling α o) = is_entry P α.entry && are_ty (P.fun α.entry).params (map type_v (arguments o))
entry_fit P (returned α c) = is_entry P α.entry
entry_fit P (running c α f η K A) = is_entry P α.entry
