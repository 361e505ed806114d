-- Whole lists of calls, over the forms that a call may have.
use Rattle.std.specs.Prelude.{◌≡◌, List, [], ◌∷◌}
use Rattle.varset.specs.Sets.{Set}
use Rattle.spec_machine.specs.Machine.{State}

-- the machine of the statement: a state, and for each activation the variables that have a value
pub record Machine : Type 0 where
  pub state : State
  pub history : List Set

-- files, what a call is given to read beside the memory (its file at least), and memories
module _ (File Given Mem : Type 0) (file : Given → File) where
  -- a form of call: its answer and the memory after it as definitions, and what an accepted call does to the machine
  pub record CallForm : Type 1 where
    pub In : Type 0
    pub Answer : Type 0
    pub reads : In → Given
    pub answer : In → Mem → Answer
    pub after : In → Mem → Mem
    pub Took : Answer → Type 0
    pub Does : In → Answer → Machine → Machine → Type 0

  module _ (Kind : Type 0) (form : Kind → CallForm) where
    -- a call of one of the forms
    pub record Call : Type 0 where
      pub kind : Kind
      pub given : (form kind).In

    -- what a call is given to read, what it leaves in the memory, and that it is accepted
    abbrev pub given_to : Call → Given
    given_to c = (form c.kind).reads c.given

    abbrev pub after_of : Call → Mem → Mem
    after_of c m = (form c.kind).after c.given m

    abbrev pub Accepts : Call → Mem → Type 0
    Accepts c m = (form c.kind).Took ((form c.kind).answer c.given m)

    -- every accepted call has the one file, a refused one any
    abbrev pub OneFile : File → List Call → Mem → Type 0
    OneFile φ [] m = Unit {0}
    OneFile φ (c ∷ cs) m = (Accepts c m → file (given_to c) ≡ φ) × OneFile φ cs (after_of c m)

    -- what one call does to the machine, and what the last accepted call was given to read
    pub data Handled (c : Call) (m : Mem) (σ : Machine) (e : Given) : Machine → Given → Type 0 where
      does : {τ : Machine} → Accepts c m → (form c.kind).Does c.given ((form c.kind).answer c.given m) σ τ → Handled c m σ e τ (given_to c)
      stays : ¬ Accepts c m → after_of c m ≡ m → Handled c m σ e σ e

    -- after each call the memory holds the machine's image; at the end `Last` holds
    pub data Story (Image : State → Mem → Type 0) (Last : Given → Mem → Machine → Type 0) : List Call → Given → Mem → Machine → Type 0 where
      end : {e : Given} {m : Mem} {σ : Machine} → Last e m σ → Story Image Last [] e m σ
      then : {c : Call} {cs : List Call} {e g : Given} {m : Mem} {σ τ : Machine} → Handled c m σ e τ g → Image τ.state (after_of c m) → Story Image Last cs g (after_of c m) τ
          → Story Image Last (c ∷ cs) e m σ
