-- What the start of a walk promises.
use Rattle.std.specs.Prelude.{◌≡◌, ℕ, Option, is_some, IfSome}
use Rattle.varset.specs.Sets.{Set}
use Rattle.spec_machine.specs.Program.{Program}
use Rattle.spec_machine.specs.Machine.{Control}
use Rattle.fit_frames.specs.declared.Received.{Received}
use Rattle.fit_frames.specs.Meaning.{incoming_is}
use Rattle.fit_frames.specs.Incoming.{start_ok, start}

-- the answer to a control over the frames: whether it may stand there, and where it may what it hands to the top frame
pub record StartAnswer (P : Program) (f : ℕ) (d : Set) (c : Control) (r : Option Received) : Type 0 where
  pub ok : is_some r ≡ start_ok P f d c
  pub on : IfSome r (λ w. incoming_is w ≡ start P f d c)
