-- What each entry point answers, and what it leaves in the memory.
use Rattle.std.specs.Prelude.{List, [], ◌∷◌, ◌++◌, Bool, true, false, ℕ, leb, length, drop}
use Rattle.std.proofs.Math.Option.{Option, none, some}
use Rattle.records.specs.Search.{unless}
use Rattle.spec_language.specs.Check.{Verdict, accepted, refused, ask, Asked, questions, first_refusal}
use Rattle.spec_machine.specs.Values.{Value, nothing}
use Rattle.spec_machine.specs.Machine.{State, main_call}
use Rattle.spec_machine.specs.Run.{Ran, run_of, look_up}
use Rattle.spec_machine.specs.File.{program_of}
use Rattle.spec_image.specs.Image.{image}
use Rattle.spec_image.specs.Decode.{state_of}
use Rattle.spec_image.specs.Sizes.{size}
use Rattle.spec_image.specs.Memory.{fit_words}

-- 15: has the memory at least 16,384 words of 32 bits?
unfoldable pub room_for : List ℕ → Asked
room_for m = ask 15 (unless (leb size (length m)) 0)

-- 16: do the first 16,384 hold the image of a fit state?
unfoldable pub image_in : List ℕ → List ℕ → Asked
image_in s m = ask 16 (unless (fit_words (program_of s) m) 0)

-- whether there is a value
abbrev pub is_present : Option Value → Bool
is_present none = false
is_present (some v) = true

-- 17: does the current activation have that variable?
unfoldable pub variable_in : List ℕ → ℕ → Asked
variable_in m x = ask 17 (unless (is_present (look_up (state_of m) x)) 0)

-- start puts questions 1 to 15
unfoldable pub start_answer : List ℕ → List ℕ → Verdict
start_answer s m = first_refusal (questions s ++ (room_for m ∷ []))

-- run and memory check put 1 to 16
unfoldable pub memory_answer : List ℕ → List ℕ → Verdict
memory_answer s m = first_refusal (questions s ++ (room_for m ∷ image_in s m ∷ []))

-- look-up puts 1 to 17
unfoldable pub look_verdict : List ℕ → List ℕ → ℕ → Verdict
look_verdict s m x = first_refusal (questions s ++ (room_for m ∷ image_in s m ∷ variable_in m x ∷ []))

-- what an accepted call tells, or the refusal's number, place and item
pub data Result (A : Type 0) : Type 0 where
  granted : A → Result A
  denied : ℕ → ℕ → ℕ → Result A

unfoldable pub by_verdict : {A : Type 0} → Verdict → A → Result A
by_verdict accepted a = granted a
by_verdict (refused q place item) a = denied q place item

-- the memory with the image of a state in its first words, where the call was accepted; else as it was
unfoldable pub written : Verdict → List ℕ → State → List ℕ
written accepted m s = image s ++ drop size m
written (refused q place item) m s = m

-- an accepted start writes main() with nothing waiting
unfoldable pub start_memory : List ℕ → List ℕ → List ℕ
start_memory s m = written (start_answer s m) m main_call

-- the run of the state in the memory, with an allowance
unfoldable pub run_from : List ℕ → List ℕ → ℕ → Ran
run_from s m a = run_of (program_of s) a (state_of m)

-- an accepted run tells its outcome and its steps, and leaves the state that it stopped at
unfoldable pub run_answer : List ℕ → List ℕ → ℕ → Result Ran
run_answer s m a = by_verdict (memory_answer s m) (run_from s m a)

unfoldable pub run_memory : List ℕ → List ℕ → ℕ → List ℕ
run_memory s m a = written (memory_answer s m) m (run_from s m a).state

-- the value of a variable, or nothing
abbrev pub value_or : Option Value → Value
value_or none = nothing
value_or (some v) = v

-- an accepted look-up tells what the variable holds
unfoldable pub look_answer : List ℕ → List ℕ → ℕ → Result Value
look_answer s m x = by_verdict (look_verdict s m x) (value_or (look_up (state_of m) x))
