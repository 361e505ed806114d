-- What a list of calls begins from, what the memory holds after each call, and what holds at the end.
use Rattle.std.specs.Prelude.{◌≡◌, ◌⊎◌, List, [], ℕ, length, drop}
use Rattle.spec_language.specs.Check.{accepted}
use Rattle.spec_machine.specs.Machine.{State, exception, calling, main_call, returned, running}
use Rattle.spec_machine.specs.Run.{all_held}
use Rattle.spec_machine.specs.File.{program_of}
use Rattle.spec_machine.specs.Applies.{One}
use Rattle.spec_machine.specs.Typed.{Typed}
use Rattle.spec_machine.specs.Calls.{Machine, Call, OneFile, Story}
use Rattle.spec_image.specs.Decode.{state_of}
use Rattle.spec_image.specs.Sizes.{size}
use Rattle.spec_image.specs.Memory.{Holds}
use Rattle.spec_answers.specs.Answers.{start_answer, memory_answer, start_memory}
use Rattle.spec_lists.specs.Forms.{Given, CallKind, form}

-- the list begins with memory that a start wrote over any content M, or that passed the memory check
pub data Begins (e : Given) : Machine → List ℕ → Type 0 where
  by_start : (M : List ℕ) → start_answer e.bytes M ≡ accepted → Begins e (record { state = main_call; history = [] }) (start_memory e.bytes M)
  stored : (M : List ℕ) → memory_answer e.bytes M ≡ accepted → Begins e (record { state = state_of M; history = all_held (state_of M) }) M

-- the memory m holds the image of the state; its later words and its length are those of M, which the list begins from
pub record Image (M : List ℕ) (s : State) (m : List ℕ) : Type 0 where
  pub holds : Holds m s
  pub rest : drop size m ≡ drop size M
  pub long : length m ≡ length M

-- a final outcome: a value with its int, or an exception
abbrev pub Final : State → Type 0
Final (State.value c) = Unit {0}
Final (exception x) = Unit {0}
Final (calling α o) = ⊥
Final (returned α c) = ⊥
Final (running c α f η K A) = ⊥

-- after the list, with what the last accepted call was given to read
pub record Last (M : List ℕ) (e : Given) (m : List ℕ) (σ : Machine) : Type 0 where
  pub onward : Final σ.state ⊎ One (program_of e.bytes) σ.state
  pub typed : Typed (program_of e.bytes) σ.state
  pub checked : memory_answer e.bytes m ≡ accepted
  pub held : Image M σ.state m

-- a call of one of the six forms
abbrev pub AnyCall : Type 0
AnyCall = Call (List ℕ) Given (List ℕ) (λ e. e.bytes) CallKind form

-- in a list begun from the memory M every accepted call has the file φ, a refused one any
abbrev pub OneFileIn : (M φ : List ℕ) → List AnyCall → Type 0
OneFileIn M φ cs = OneFile (List ℕ) Given (List ℕ) (λ e. e.bytes) CallKind form φ cs M

-- the machine call by call, from the memory M and the machine σ, and `Last` at the end
abbrev pub StoryOf : List ℕ → List AnyCall → Given → Machine → Type 0
StoryOf M cs e σ = Story (List ℕ) Given (List ℕ) (λ e. e.bytes) CallKind form (Image M) (Last M) cs e M σ
