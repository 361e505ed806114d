-- States, and the rules of 002 by name.
use Rattle.std.specs.Prelude.{◌≡◌, true, false, List, [], ◌∷◌, ◌++◌, ℕ, get_or, set, length}
use Rattle.std.proofs.Math.Option.{Option, none, some}
use Rattle.spec_machine.specs.Values.{Value, nothing, int, truth, Ty, result}
use Rattle.spec_machine.specs.Program.{Operation, op, fn, Ref, if_of, ExprForm, const, apply, StmtForm, Fun, Program}

-- the exceptions that end a run
pub data Exception : Type 0 where
  arith abort : Exception

-- frames as 002 writes them: nodes of what still waits, values of what is done, nothing of where they came from; by frame
pub data Frame : Type 0 where
  gather : Operation → List Value → List ℕ → Frame
  and : ℕ → Frame
  wait : Ref → Frame
  store : ℕ → Frame
  branch : Ref → Ref → Frame
  leave : Frame
  check : Frame
  discard : Frame

-- a value at hand, an expression to evaluate, a statement to execute
pub data Control : Type 0 where
  val : Value → Control
  eval : ℕ → Control
  exec : Ref → Control

-- an activation whose callee runs: function, variables, frames
pub data Saved : Type 0 where
  saved : ℕ → List Value → List Frame → Saved

-- the environment of a run, in every state that is not final: the function that the run was started with
pub record RunEnv : Type 0 where
  pub entry : ℕ

-- the environment of a run of main
abbrev pub empty_env : RunEnv
empty_env = record { entry = 0 }

-- calling: the entry function with its argument, if it has one, and nothing waiting; running: control, environment, then the current activation's function, variables and frames, then the saved callers but the empty one
pub data State : Type 0 where
  value : ℕ → State
  exception : Exception → State
  calling : RunEnv → Option ℕ → State
  returned : RunEnv → ℕ → State
  running : Control → RunEnv → ℕ → List Value → List Frame → List Saved → State

-- main() with nothing waiting
abbrev pub main_call : State
main_call = calling empty_env none

-- the rules of 002 that the machine uses; by kind; by frame
pub data Rule : Type 0 where
  op_first op_second op_value op_arith and_first and_false and_true var : Rule
  seq nop assign store decl assert assert_true assert_false if if_true if_false while expr discard : Rule
  call_first call_next call_enter call_none return leave value : Rule

-- a constant is its own value: reaching it is no step; by kind
abbrev pub reach_l : ℕ → ExprForm → Control
reach_l n (const v) = val v
reach_l n (ExprForm.var x) = eval n
reach_l n (apply h ns) = eval n
reach_l n (ExprForm.and l r) = eval n
reach_l n ExprForm.stray = eval n

abbrev pub reach : Program → ℕ → ℕ → Control
reach P f n = reach_l n (P.look f n)

-- operators and calls gather operands alike
abbrev pub first_name : Operation → Rule
first_name (op o) = Rule.op_first
first_name (fn f) = Rule.call_first

abbrev pub next_name : Operation → Rule
next_name (op o) = Rule.op_second
next_name (fn f) = Rule.call_next

-- the variables at entry: the arguments, and nothing in the others
abbrev pub blank : List Ty → List Value
blank [] = []
blank (t ∷ ts) = nothing ∷ blank ts

abbrev pub entered : Fun → List Value → List Value
entered f vs = vs ++ blank f.locals

-- the entry function is called with no argument, or with one int
abbrev pub arguments : Option ℕ → List Value
arguments none = []
arguments (some n) = int n ∷ []

abbrev pub entry_name : Option ℕ → Rule
entry_name none = Rule.call_none
entry_name (some n) = Rule.call_enter

-- what a step does to who has a value, beside what it reads
pub data Event : Type 0 where
  quiet : Event
  reads : ℕ → Event
  has : ℕ → Event
  lacks : ℕ → Event
  enters : ℕ → Event
  leaves : Event
  ends : Event

-- a rule takes a state to the next, with its event; no order among them and no limits inside; by kind; by frame
pub data Step (P : Program) : Rule → Event → State → State → Type 0 where
  first : {m f : ℕ} {h : Operation} {n : ℕ} {ns : List ℕ} {η : List Value} {K : List Frame} {A : List Saved} {α : RunEnv}
      → P.look f m ≡ apply h (n ∷ ns)
      → Step P (first_name h) quiet (running (eval m) α f η K A) (running (reach P f n) α f η (gather h [] ns ∷ K) A)
  next : {f : ℕ} {h : Operation} {v : Value} {vs : List Value} {n : ℕ} {ns : List ℕ} {η : List Value} {K : List Frame} {A : List Saved} {α : RunEnv}
      → Step P (next_name h) quiet (running (val v) α f η (gather h vs (n ∷ ns) ∷ K) A) (running (reach P f n) α f η (gather h (vs ++ (v ∷ [])) ns ∷ K) A)
  op_value : {f : ℕ} {o : ℕ} {a b : ℕ} {v : Value} {η : List Value} {K : List Frame} {A : List Saved} {α : RunEnv}
      → result P.edition o a b ≡ some v
      → Step P Rule.op_value quiet (running (val (int b)) α f η (gather (op o) (int a ∷ []) [] ∷ K) A) (running (val v) α f η K A)
  op_arith : {f : ℕ} {o : ℕ} {a b : ℕ} {η : List Value} {K : List Frame} {A : List Saved} {α : RunEnv}
      → result P.edition o a b ≡ none
      → Step P Rule.op_arith ends (running (val (int b)) α f η (gather (op o) (int a ∷ []) [] ∷ K) A) (exception arith)
  and_first : {m n l f : ℕ} {η : List Value} {K : List Frame} {A : List Saved} {α : RunEnv}
      → P.look f m ≡ ExprForm.and n l
      → Step P Rule.and_first quiet (running (eval m) α f η K A) (running (reach P f n) α f η (and l ∷ K) A)
  and_false : {l f : ℕ} {η : List Value} {K : List Frame} {A : List Saved} {α : RunEnv}
      → Step P Rule.and_false quiet (running (val (truth false)) α f η (and l ∷ K) A) (running (val (truth false)) α f η K A)
  and_true : {l f : ℕ} {η : List Value} {K : List Frame} {A : List Saved} {α : RunEnv}
      → Step P Rule.and_true quiet (running (val (truth true)) α f η (and l ∷ K) A) (running (reach P f l) α f η K A)
  var : {m x f : ℕ} {η : List Value} {K : List Frame} {A : List Saved} {α : RunEnv}
      → P.look f m ≡ ExprForm.var x
      → Step P Rule.var (reads x) (running (eval m) α f η K A) (running (val (get_or η x nothing)) α f η K A)
  seq : {r a b : Ref} {f : ℕ} {η : List Value} {K : List Frame} {A : List Saved} {α : RunEnv}
      → P.see f r ≡ StmtForm.seq a b
      → Step P Rule.seq quiet (running (exec r) α f η K A) (running (exec a) α f η (wait b ∷ K) A)
  nop : {r s : Ref} {f : ℕ} {η : List Value} {K : List Frame} {A : List Saved} {α : RunEnv}
      → P.see f r ≡ StmtForm.nop
      → Step P Rule.nop quiet (running (exec r) α f η (wait s ∷ K) A) (running (exec s) α f η K A)
  assign : {r : Ref} {x n f : ℕ} {η : List Value} {K : List Frame} {A : List Saved} {α : RunEnv}
      → P.see f r ≡ StmtForm.assign x n
      → Step P Rule.assign quiet (running (exec r) α f η K A) (running (reach P f n) α f η (Frame.store x ∷ K) A)
  store : {v : Value} {x f : ℕ} {η : List Value} {K : List Frame} {A : List Saved} {α : RunEnv}
      → Step P Rule.store (has x) (running (val v) α f η (Frame.store x ∷ K) A) (running (exec Ref.nop) α f (set η x v) K A)
  decl : {r a : Ref} {x f : ℕ} {η : List Value} {K : List Frame} {A : List Saved} {α : RunEnv}
      → P.see f r ≡ StmtForm.decl x a
      → Step P Rule.decl (lacks x) (running (exec r) α f η K A) (running (exec a) α f (set η x nothing) K A)
  assert : {r : Ref} {n f : ℕ} {η : List Value} {K : List Frame} {A : List Saved} {α : RunEnv}
      → P.see f r ≡ StmtForm.assert n
      → Step P Rule.assert quiet (running (exec r) α f η K A) (running (reach P f n) α f η (check ∷ K) A)
  assert_true : {f : ℕ} {η : List Value} {K : List Frame} {A : List Saved} {α : RunEnv}
      → Step P Rule.assert_true quiet (running (val (truth true)) α f η (check ∷ K) A) (running (exec Ref.nop) α f η K A)
  assert_false : {f : ℕ} {η : List Value} {K : List Frame} {A : List Saved} {α : RunEnv}
      → Step P Rule.assert_false ends (running (val (truth false)) α f η (check ∷ K) A) (exception abort)
  if : {r a b : Ref} {n f : ℕ} {η : List Value} {K : List Frame} {A : List Saved} {α : RunEnv}
      → P.see f r ≡ StmtForm.if n a b
      → Step P Rule.if quiet (running (exec r) α f η K A) (running (reach P f n) α f η (branch a b ∷ K) A)
  if_true : {a b : Ref} {f : ℕ} {η : List Value} {K : List Frame} {A : List Saved} {α : RunEnv}
      → Step P Rule.if_true quiet (running (val (truth true)) α f η (branch a b ∷ K) A) (running (exec a) α f η K A)
  if_false : {a b : Ref} {f : ℕ} {η : List Value} {K : List Frame} {A : List Saved} {α : RunEnv}
      → Step P Rule.if_false quiet (running (val (truth false)) α f η (branch a b ∷ K) A) (running (exec b) α f η K A)
  while : {r a : Ref} {w n f : ℕ} {η : List Value} {K : List Frame} {A : List Saved} {α : RunEnv}
      → P.see f r ≡ StmtForm.while w n a
      → Step P Rule.while quiet (running (exec r) α f η K A) (running (exec (if_of w)) α f η K A)
  expr : {r : Ref} {n f : ℕ} {η : List Value} {K : List Frame} {A : List Saved} {α : RunEnv}
      → P.see f r ≡ StmtForm.expr n
      → Step P Rule.expr quiet (running (exec r) α f η K A) (running (reach P f n) α f η (Frame.discard ∷ K) A)
  discard : {v : Value} {f : ℕ} {η : List Value} {K : List Frame} {A : List Saved} {α : RunEnv}
      → Step P Rule.discard quiet (running (val v) α f η (Frame.discard ∷ K) A) (running (exec Ref.nop) α f η K A)
  enter : {v : Value} {vs : List Value} {g f : ℕ} {η : List Value} {K : List Frame} {A : List Saved} {α : RunEnv}
      → Step P Rule.call_enter (enters (length (P.fun g).params)) (running (val v) α f η (gather (fn g) vs [] ∷ K) A) (running (exec (P.fun g).body) α g (entered (P.fun g) (vs ++ (v ∷ []))) [] (saved f η K ∷ A))
  call_none : {m g f : ℕ} {η : List Value} {K : List Frame} {A : List Saved} {α : RunEnv}
      → P.look f m ≡ apply (fn g) []
      → Step P Rule.call_none (enters (length (P.fun g).params)) (running (eval m) α f η K A) (running (exec (P.fun g).body) α g (entered (P.fun g) []) [] (saved f η K ∷ A))
  call_entry : {o : Option ℕ} {α : RunEnv}
      → Step P (entry_name o) (enters (length (P.fun α.entry).params)) (calling α o) (running (exec (P.fun α.entry).body) α α.entry (entered (P.fun α.entry) (arguments o)) [] [])
  return : {r : Ref} {n f : ℕ} {η : List Value} {K : List Frame} {A : List Saved} {α : RunEnv}
      → P.see f r ≡ StmtForm.return n
      → Step P Rule.return quiet (running (exec r) α f η K A) (running (reach P f n) α f η (Frame.leave ∷ K) A)
  leave : {v : Value} {f g : ℕ} {η θ : List Value} {K L : List Frame} {A : List Saved} {α : RunEnv}
      → Step P Rule.leave leaves (running (val v) α f η (Frame.leave ∷ K) (saved g θ L ∷ A)) (running (val v) α g θ L A)
  leave_entry : {c f : ℕ} {η : List Value} {K : List Frame} {α : RunEnv}
      → Step P Rule.leave leaves (running (val (int c)) α f η (Frame.leave ∷ K) []) (returned α c)
  value : {c : ℕ} {α : RunEnv} → Step P Rule.value ends (returned α c) (State.value c)
