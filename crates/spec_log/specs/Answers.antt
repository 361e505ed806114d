-- What a logged run and a step back answer, and what they leave in the memory and in the log.
use Rattle.std.specs.Prelude.{Bool, ◌&&◌, List, [], ◌∷◌, ◌++◌, ℕ, ◌-◌, eqb, take}
use Rattle.records.specs.Search.{unless}
use Rattle.words.specs.Blocks.{eq_words}
use Rattle.spec_language.specs.Check.{Verdict, accepted, refused, ask, Asked, questions, first_refusal}
use Rattle.spec_machine.specs.Program.{Program}
use Rattle.spec_machine.specs.Machine.{State}
use Rattle.spec_machine.specs.Run.{run_of}
use Rattle.spec_machine.specs.File.{program_of}
use Rattle.spec_image.specs.Image.{image}
use Rattle.spec_image.specs.Decode.{state_of}
use Rattle.spec_image.specs.Sizes.{size}
use Rattle.spec_image.specs.Memory.{fit_words}
use Rattle.spec_answers.specs.Answers.{room_for, image_in, memory_answer, Result, by_verdict, written}
use Rattle.spec_log.specs.Records.{last_bytes, has_record, earlier}
use Rattle.spec_log.specs.Logged.{Logged, log_of}

-- the logged run of the state in the memory
unfoldable pub log_from : List ℕ → List ℕ → ℕ → List ℕ → ℕ → Logged
log_from s m a log used = log_of (program_of s) a (state_of m) log used

-- a logged run puts 1 to 16; an accepted one tells how it stopped, its steps and the used length
unfoldable pub log_answer : List ℕ → List ℕ → ℕ → List ℕ → ℕ → Result Logged
log_answer s m a log used = by_verdict (memory_answer s m) (log_from s m a log used)

unfoldable pub log_memory : List ℕ → List ℕ → ℕ → List ℕ → ℕ → List ℕ
log_memory s m a log used = written (memory_answer s m) m (log_from s m a log used).state

-- the log with the records, where the call was accepted; else as it was
unfoldable pub log_written : Verdict → List ℕ → Logged → List ℕ
log_written accepted log q = q.log
log_written (refused question place item) log q = log

unfoldable pub log_after : List ℕ → List ℕ → ℕ → List ℕ → ℕ → List ℕ
log_after s m a log used = log_written (memory_answer s m) log (log_from s m a log used)

-- the one step of a state leads to these words
unfoldable pub leads_to : Program → State → List ℕ → Bool
leads_to P s w = let one = run_of P 1 s in eqb one.steps 1 && eq_words (image one.state) w

-- the words of the memory before its last step, as the log's last record says
unfoldable pub words_before : List ℕ → List ℕ → ℕ → List ℕ
words_before m log used = earlier log used (take size m)

-- 18: does the log end in a record that leads back to a fit state whose one step leads to this memory?
unfoldable pub back_to : Program → List ℕ → List ℕ → ℕ → Bool
back_to P m log used = has_record log used && (fit_words P (words_before m log used) && leads_to P (state_of (words_before m log used)) (take size m))

unfoldable pub record_in : List ℕ → List ℕ → List ℕ → ℕ → Asked
record_in s m log used = ask 18 (unless (back_to (program_of s) m log used) 0)

-- a step back puts 1 to 16 and 18
unfoldable pub back_verdict : List ℕ → List ℕ → List ℕ → ℕ → Verdict
back_verdict s m log used = first_refusal (questions s ++ (room_for m ∷ image_in s m ∷ record_in s m log used ∷ []))

-- an accepted one tells the used length without the last record, and leaves the state that it goes to
unfoldable pub back_answer : List ℕ → List ℕ → List ℕ → ℕ → Result ℕ
back_answer s m log used = by_verdict (back_verdict s m log used) (used - last_bytes log used)

unfoldable pub back_memory : List ℕ → List ℕ → List ℕ → ℕ → List ℕ
back_memory s m log used = written (back_verdict s m log used) m (state_of (words_before m log used))
