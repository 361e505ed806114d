-- What the code's values that come down stand for, and what one step down promises.
use Rattle.std.specs.Prelude.{◌≡◌, true, false, List, ℕ, Bool, Option, Some, None, is_some, IfSome}
use Rattle.varset.specs.Sets.{Set, has}
use Rattle.words.specs.Stacks.{block_at}
use Rattle.spec_machine.specs.Values.{t_none}
use Rattle.spec_machine.specs.Program.{Program}
use Rattle.spec_machine.specs.Machine.{Frame}
use Rattle.spec_image.specs.Decode.{frame_of}
use Rattle.fit_frames.specs.declared.Received.{Received}
use Rattle.fit_frames.specs.Incoming.{Incoming, incoming, frame_fits, hands_on}
use Rattle.spec_image.specs.Sizes.{frame_size, frames_at}

-- a value of a type, or none, comes down
abbrev pub given_is : Option ℕ → Set → Bool → Incoming
given_is (Some t) d e = incoming true t d e
given_is None d e = incoming false t_none d e

-- what comes down
abbrev pub incoming_is : Received → Incoming
incoming_is d = given_is d.given (has d.set.0) d.come

-- the answer of a step over a frame: whether it suits, and where it does what it hands on
pub record Steps (P : Program) (f : ℕ) (d : Received) (fr : Frame) (r : Option Received) : Type 0 where
  pub ok : is_some r ≡ frame_fits P f (incoming_is d) fr
  pub on : IfSome r (λ w. incoming_is w ≡ hands_on P f (incoming_is d) fr)

-- the frame with i frames under it
abbrev pub frame_in : List ℕ → ℕ → Frame
frame_in m i = frame_of (block_at frame_size m frames_at i)
