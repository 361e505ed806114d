-- The forms of call that a list may have: what each is given, answers, leaves in the memory, and does to the machine.
use Rattle.std.specs.Prelude.{◌≡◌, List, [], ℕ, ◌-◌, ◌<◌, length, get_or}
use Rattle.std.proofs.Math.Option.{some}
use Rattle.spec_language.specs.Check.{Verdict, accepted, refused}
use Rattle.spec_machine.specs.Values.{Value}
use Rattle.spec_machine.specs.Program.{Program}
use Rattle.spec_machine.specs.Machine.{main_call, Rule, Event, Step}
use Rattle.spec_machine.specs.Fit.{Fit}
use Rattle.spec_machine.specs.Run.{all_held, Outcome, RunsTo, Ran, look_up}
use Rattle.spec_machine.specs.File.{program_of}
use Rattle.spec_machine.specs.Calls.{Machine, CallForm}
use Rattle.spec_answers.specs.Answers.{start_answer, memory_answer, Result, granted, denied, start_memory, run_answer, run_memory, look_answer}
use Rattle.spec_log.specs.Logged.{Stop, LogsTo, Logged}
use Rattle.spec_log.specs.Answers.{log_answer, log_memory, back_answer, back_memory}

-- what a call is given to read beside the memory: a file of bytes
pub record Given : Type 0 where
  pub bytes : List ℕ
  pub small : (i : ℕ) → get_or bytes i 0 < 256

-- a file, with the allowance of a run or the variable of a look-up
pub record Asking : Type 0 where
  pub file : Given
  pub number : ℕ

-- a file and the allowance of a logged run, with a log and its used length
pub record Logging : Type 0 where
  pub file : Given
  pub number : ℕ
  pub log : List ℕ
  pub used : ℕ

-- a file, with the log of a step back and its used length
pub record Returning : Type 0 where
  pub file : Given
  pub log : List ℕ
  pub used : ℕ

-- the forms
pub data CallKind : Type 0 where
  start run memory look logged back : CallKind

-- what each form takes
abbrev pub Input : CallKind → Type 0
Input CallKind.start = Given
Input CallKind.run = Asking
Input CallKind.memory = Given
Input CallKind.look = Asking
Input CallKind.logged = Logging
Input CallKind.back = Returning

-- the file that each form is given
abbrev pub given_of : (k : CallKind) → Input k → Given
given_of CallKind.start i = i
given_of CallKind.run i = i.file
given_of CallKind.memory i = i
given_of CallKind.look i = i.file
given_of CallKind.logged i = i.file
given_of CallKind.back i = i.file

-- the kind of answer of each form
abbrev pub AnswerType : CallKind → Type 0
AnswerType CallKind.start = Verdict
AnswerType CallKind.run = Result Ran
AnswerType CallKind.memory = Verdict
AnswerType CallKind.look = Result Value
AnswerType CallKind.logged = Result Logged
AnswerType CallKind.back = Result ℕ

-- what each form answers: the definitions that the entry points promise
abbrev pub answer_of : (k : CallKind) → Input k → List ℕ → AnswerType k
answer_of CallKind.start i m = start_answer i.bytes m
answer_of CallKind.run i m = run_answer i.file.bytes m i.number
answer_of CallKind.memory i m = memory_answer i.bytes m
answer_of CallKind.look i m = look_answer i.file.bytes m i.number
answer_of CallKind.logged i m = log_answer i.file.bytes m i.number i.log i.used
answer_of CallKind.back i m = back_answer i.file.bytes m i.log i.used

-- what each form leaves in the memory; the memory check and the look-up are lent it to read alone
abbrev pub memory_after : (k : CallKind) → Input k → List ℕ → List ℕ
memory_after CallKind.start i m = start_memory i.bytes m
memory_after CallKind.run i m = run_memory i.file.bytes m i.number
memory_after CallKind.memory i m = m
memory_after CallKind.look i m = m
memory_after CallKind.logged i m = log_memory i.file.bytes m i.number i.log i.used
memory_after CallKind.back i m = back_memory i.file.bytes m i.log i.used

-- a verdict that is no refusal
abbrev pub IsAccepted : Verdict → Type 0
IsAccepted accepted = Unit {0}
IsAccepted (refused q place item) = ⊥

-- an answer that tells something
abbrev pub IsGranted : {A : Type 0} → Result A → Type 0
IsGranted (granted a) = Unit {0}
IsGranted (denied q place item) = ⊥

-- the answer of an accepted call
abbrev pub Took : (k : CallKind) → AnswerType k → Type 0
Took CallKind.start a = IsAccepted a
Took CallKind.run a = IsGranted a
Took CallKind.memory a = IsAccepted a
Took CallKind.look a = IsGranted a
Took CallKind.logged a = IsGranted a
Took CallKind.back a = IsGranted a

-- a run by the rules, with an allowance, that answers with its outcome and its number of rules
pub record RunDoes (P : Program) (allowance : ℕ) (a : Result Ran) (σ τ : Machine) : Type 0 where
  pub outcome : Outcome
  pub steps : ℕ
  pub answer : a ≡ granted (record { outcome = outcome; steps = steps; state = τ.state })
  pub runs : RunsTo P σ.state σ.history allowance steps τ.state τ.history outcome

-- a look-up that answers what the machine's variable holds
pub record LookDoes (x : ℕ) (a : Result Value) (σ : Machine) : Type 0 where
  pub value : Value
  pub there : look_up σ.state x ≡ some value
  pub answer : a ≡ granted value

-- a logged run by the rules, with so many bytes of the log free, that answers how it stopped and its number of rules
pub record LogDoes (P : Program) (allowance free : ℕ) (a : Result Logged) (σ τ : Machine) : Type 0 where
  pub stop : Stop
  pub steps : ℕ
  pub log : List ℕ
  pub used : ℕ
  pub answer : a ≡ granted (record { stop = stop; steps = steps; state = τ.state; log = log; used = used })
  pub logs : LogsTo P free σ.state σ.history allowance steps τ.state τ.history stop

-- a step back to a fit state whose one step leads to the machine's state; variables have what is held there
pub record BackDoes (P : Program) (a : Result ℕ) (σ τ : Machine) : Type 0 where
  pub used : ℕ
  pub answer : a ≡ granted used
  pub fit : Fit P τ.state
  pub rule : Rule
  pub event : Event
  pub step : Step P rule event τ.state σ.state
  pub same : τ.history ≡ all_held τ.state

-- what an accepted call does to the machine: start makes it main(), a run takes it on, logged or not, a step back takes it back, all else leaves it
abbrev pub Does : (k : CallKind) → Input k → AnswerType k → Machine → Machine → Type 0
Does CallKind.start i a σ τ = (τ.state ≡ main_call) × (τ.history ≡ [])
Does CallKind.run i a σ τ = RunDoes (program_of i.file.bytes) i.number a σ τ
Does CallKind.memory i a σ τ = τ ≡ σ
Does CallKind.look i a σ τ = (τ ≡ σ) × LookDoes i.number a σ
Does CallKind.logged i a σ τ = LogDoes (program_of i.file.bytes) i.number (length i.log - i.used) a σ τ
Does CallKind.back i a σ τ = BackDoes (program_of i.file.bytes) a σ τ

-- the six forms, as the statement over lists takes them
abbrev pub form : CallKind → CallForm (List ℕ) Given (List ℕ) (λ e. e.bytes)
form k =
    record { In = Input k; Answer = AnswerType k; reads = given_of k; answer = answer_of k; after = memory_after k; Took = Took k; Does = Does k }
