-- What the registers of a running state say, and what a step comes to.
use Rattle.std.specs.Prelude.{◌≡◌, true, false, List, ◌∷◌, ◌++◌, ℕ, ◌+◌, ◌*◌, ◌≤◌, ◌<◌, length, drop, replicate}
use Rattle.records.specs.Fields.{functions, count_of}
use Rattle.records.specs.Parts.{start_of}
use Rattle.spec_machine.specs.Values.{Value}
use Rattle.spec_machine.specs.Machine.{Exception, arith, abort, Frame, Saved, saved, RunEnv, State, exception, returned, running}
use Rattle.spec_machine.specs.Run.{within_limits}
use Rattle.spec_image.specs.Image.{saved_frames}
use Rattle.spec_image.specs.Core.{core}
use Rattle.state_words.specs.declared.Control.{Control}
use Rattle.state_words.specs.Meaning.{control_is}
use Rattle.run_rules.specs.declared.Registers.{Registers}
use Rattle.run_rules.specs.declared.Stepped.{Stepped}
use Rattle.run_rules.specs.declared.Stepped.TheVariants.{Went, Full, Returned, Arith, Abort}
use Rattle.spec_image.specs.Sizes.{env_at, size}
use Rattle.spec_machine.specs.Fit.{caller_limit, frame_limit}

-- the current function f with its part's first byte and node count, how many callers and frames there are
pub record Describes (s : List ℕ) (h : Registers) (f : ℕ) (K : List Frame) (A : List Saved) : Type 0 where
  pub function : h.function ≡ f
  pub start : h.start ≡ 12 * start_of s f
  pub count : h.count ≡ count_of s f
  pub callers : h.callers ≡ length A
  pub frames : h.frames ≡ length K
  pub under : h.under ≡ length (saved_frames A)

-- the words after the frames, by the environment of the run: a rule that does not touch the environment keeps them, whatever they are
abbrev pub Rest : Type 0
Rest = RunEnv → List ℕ

-- of every running state that the memory l and the registers h hold
abbrev pub Holding : List ℕ → List ℕ → Registers → (RunEnv → ℕ → List Value → List Frame → List Saved → Rest → Type 0) → Type 0
Holding s l h say = (α : RunEnv) (f : ℕ) (η : List Value) (K : List Frame) (A : List Saved) (R : Rest) → l ≡ core f η K A ++ R α → Describes s h f K A → say α f η K A R

-- the same of every one with a frame on top
abbrev pub HoldingTop : List ℕ → List ℕ → Registers → (RunEnv → ℕ → List Value → Frame → List Frame → List Saved → Rest → Type 0) → Type 0
HoldingTop s l h say = (α : RunEnv) (f : ℕ) (η : List Value) (fr : Frame) (K : List Frame) (A : List Saved) (R : Rest) → l ≡ core f η (fr ∷ K) A ++ R α → Describes s h f (fr ∷ K) A → say α f η fr K A R

-- the memory is long enough, and the limits are kept
abbrev pub Bounds : Registers → List ℕ → Type 0
Bounds h l = (size ≤ length l) × (h.callers < caller_limit) × (h.under + h.frames ≤ frame_limit)

-- the current function was called by a function of the file
pub record Called (s : List ℕ) (h : Registers) (l : List ℕ) : Type 0 where
  pub function : ℕ
  pub variables : List Value
  pub frames : List Frame
  pub caller : ℕ
  pub caller_variables : List Value
  pub caller_frames : List Frame
  pub callers : List Saved
  pub rest : List ℕ
  pub held : l ≡ core function variables frames (saved caller caller_variables caller_frames ∷ callers) ++ rest
  pub describes : Describes s h function frames (saved caller caller_variables caller_frames ∷ callers)
  pub known : caller < functions s

-- the state t goes on with the control c, and the memory m and the registers h hold the rest of it
pub record Continues (s : List ℕ) (c : Control) (h : Registers) (m : List ℕ) (R : Rest) (t : State) : Type 0 where
  pub environment : RunEnv
  pub function : ℕ
  pub variables : List Value
  pub frames : List Frame
  pub callers : List Saved
  pub is : t ≡ running (control_is c) environment function variables frames callers
  pub held : m ≡ core function variables frames callers ++ R environment
  pub describes : Describes s h function frames callers
  pub limits : within_limits t ≡ true

-- the state t is the entry function's return with the int w, and the memory m has its environment alone
pub record Returns (w : ℕ) (m : List ℕ) (R : Rest) (t : State) : Type 0 where
  pub environment : RunEnv
  pub is : t ≡ returned environment w
  pub held : (z : ℕ) → z ≡ env_at → m ≡ replicate z 0 ++ R environment

-- all words of a state are zero in the memory m, and those after it are as in l
abbrev pub Cleared : List ℕ → List ℕ → Type 0
Cleared l m = (z : ℕ) → z ≡ size → m ≡ replicate z 0 ++ drop z l

-- the state t is an exception, from the memory l to the memory m
abbrev pub Raises : Exception → List ℕ → List ℕ → State → Type 0
Raises x l m t = (t ≡ exception x) × Cleared l m

-- a step to the state t, from the memory l to the memory m
unfoldable pub StepsTo : List ℕ → Stepped → List ℕ → List ℕ → Rest → State → Type 0
StepsTo s (Went c h) l m R t = Continues s c h m R t
StepsTo s Full l m R t = (within_limits t ≡ false) × (m ≡ l)
StepsTo s (Returned w) l m R t = Returns w m R t
StepsTo s Arith l m R t = Raises arith l m t
StepsTo s Abort l m R t = Raises abort l m t
