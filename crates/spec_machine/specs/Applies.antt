-- Exactly one rule applies.
use Rattle.std.specs.Prelude.{◌≡◌}
use Rattle.spec_machine.specs.Program.{Program}
use Rattle.spec_machine.specs.Machine.{State, Rule, Event, Step}

-- a rule applies, with its event and the next state
pub record Applies (P : Program) (s : State) : Type 0 where
  pub rule : Rule
  pub event : Event
  pub state : State
  pub step : Step P rule event s state

-- it is the only one, in a single way
pub record One (P : Program) (s : State) : Type 0 where
  pub some : Applies P s
  pub only : {r : Rule} {v : Event} {t : State} → Step P r v s t → (r ≡ some.rule) × (v ≡ some.event) × (t ≡ some.state)
