-- What fits into the blocks of an image: at most 7 operands in a frame, at most 64 variables in an activation.
use Rattle.std.specs.Prelude.{◌+◌, ◌≤◌, length}
use Rattle.words.specs.Stacks.{Every}
use Rattle.spec_machine.specs.Machine.{Frame, gather, and, wait, branch, check, State}
use Rattle.spec_image.specs.Sizes.{slot_room, variable_room}
use Rattle.spec_image.specs.Layout.{Activation, activation}
use Rattle.spec_image.specs.Image.{activations_of, frames_of}

-- at most 7 operands; by frame
abbrev pub NarrowFrame : Frame → Type 0
NarrowFrame (gather h vs ns) = length vs + length ns ≤ slot_room
NarrowFrame (and n) = Unit {0}
NarrowFrame (wait r) = Unit {0}
NarrowFrame (Frame.store x) = Unit {0}
NarrowFrame (branch a b) = Unit {0}
NarrowFrame Frame.leave = Unit {0}
NarrowFrame check = Unit {0}
NarrowFrame Frame.discard = Unit {0}

abbrev pub NarrowActivation : Activation → Type 0
NarrowActivation (activation f k η) = length η ≤ variable_room

-- every frame and every activation of the state
pub record Narrow (s : State) : Type 0 where
  pub frames : Every NarrowFrame (frames_of s)
  pub activations : Every NarrowActivation (activations_of s)
