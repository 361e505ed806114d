-- A fit state at which a run stands, and what its step comes to.
use Rattle.std.specs.Prelude.{◌≡◌, Bool, true, false, List, ◌++◌, ℕ, ◌+◌, ◌*◌, ◌≤◌, ◌<◌, length}
use Rattle.records.specs.Fields.{functions, kind_at, a_at, b_at}
use Rattle.records.specs.Children.{arity_at}
use Rattle.spec_language.specs.KindLists.{is_statement}
use Rattle.spec_language.specs.Check.{accepted, check_of}
use Rattle.spec_machine.specs.Values.{Value}
use Rattle.spec_machine.specs.Program.{Ref, node, if_of, seq_of}
use Rattle.spec_machine.specs.Machine.{Frame, Control, Saved, RunEnv, running}
use Rattle.spec_machine.specs.Next.{Move, stuck, goes}
use Rattle.spec_machine.specs.Fit.{Fit}
use Rattle.spec_machine.specs.File.{program_of}
use Rattle.spec_image.specs.Layout.{env_words}
use Rattle.spec_image.specs.Core.{core}
use Rattle.state_words.specs.declared.Value as code
use Rattle.state_words.specs.declared.Value.TheVariants.{Nothing, Int, Truth}
use Rattle.run_rules.specs.declared.Registers.{Registers}
use Rattle.run_rules.specs.declared.Stepped.{Stepped}
use Rattle.run_rules.specs.StepsTo.{Rest, Describes, StepsTo}
use Rattle.records.specs.Starts.{Starts}
use Rattle.records.specs.Format.{most_nodes, most_variables}

-- a value that is an int, or a bool
abbrev pub IsInt : code.Value → Type 0
IsInt Nothing = ⊥
IsInt (Int n) = Unit {0}
IsInt (Truth b) = ⊥

abbrev pub IsTruth : code.Value → Type 0
IsTruth Nothing = ⊥
IsTruth (Int n) = ⊥
IsTruth (Truth b) = Unit {0}

-- node i of a part t of the file s stands in it after its children, and its fields name a variable or a function
pub record Node (s t : List ℕ) (i : ℕ) : Type 0 where
  pub inside : 12 * i + 12 ≤ length t
  pub few : i < most_nodes
  pub child : 0 < arity_at t i → 0 < i
  pub variable : kind_at t i ≡ 2 → b_at t i < most_variables
  pub arguments : kind_at t i ≡ 5 → a_at t i ≤ 8
  pub callee : kind_at t i ≡ 5 → b_at t i < functions s

-- the seq in the if that a while equals, or that if
abbrev pub in_loop : Bool → ℕ → Ref
in_loop true w = seq_of w
in_loop false w = if_of w

-- the node of a reference stands in a part t after its children
abbrev pub InPart : List ℕ → ℕ → Type 0
InPart t i = (12 * i + 12 ≤ length t) × (i < most_nodes) × (0 < i)

-- the statement of a reference stands in a part t
abbrev pub Executes : List ℕ → Ref → Type 0
Executes t (node i) = InPart t i × (is_statement (kind_at t i) ≡ true) × (kind_at t i ≡ 9 → b_at t i < most_variables)
Executes t Ref.nop = Unit {0}
Executes t (if_of w) = InPart t w × (kind_at t w ≡ 11)
Executes t (seq_of w) = InPart t w × (kind_at t w ≡ 11)

-- the file is accepted, and the memory l and the registers h hold a fit state with the control c
pub record AtFitState (s table : List ℕ) (c : Control) (h : Registers) (l : List ℕ) : Type 0 where
  pub passed : check_of s ≡ accepted
  pub starts : Starts s table
  pub environment : RunEnv
  pub variables : List Value
  pub frames : List Frame
  pub callers : List Saved
  pub rest : List ℕ
  pub held : l ≡ core h.function variables frames callers ++ (env_words environment ++ rest)
  pub describes : Describes s h h.function frames callers
  pub fit : Fit (program_of s) (running c environment h.function variables frames callers)

-- the step of a move, which is not stuck
abbrev pub StepsBy : List ℕ → Stepped → List ℕ → List ℕ → Rest → Move → Type 0
StepsBy s r l m R stuck = ⊥
StepsBy s r l m R (goes rule t) = StepsTo s r l m R t
