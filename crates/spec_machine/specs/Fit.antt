-- The states that are fit.
use Rattle.std.specs.Prelude.{None, ◌≡◌, ◌⊎◌, Bool, true, false, ◌||◌, ◌&&◌, not, List, [], ◌∷◌, ◌++◌, map, ℕ, ◌+◌, ◌^◌, ◌≤◌, ◌<◌, get_or, length}
use Rattle.varset.specs.Sets.{Set, with, both, either, below}
use Rattle.records.specs.Format.{most_variables}
use Rattle.spec_language.specs.Flow.{leaves, missing, lacks, returns}
use Rattle.spec_machine.specs.Values.{Ty, t_bool, Value, nothing, int, truth, type_v}
use Rattle.spec_machine.specs.Program.{Operation, op, fn, Ref, node, if_of, seq_of, ExprForm, const, apply, StmtForm, Program, owns, type_n, var_types, type_of_var, wants, gives, if_given}
use Rattle.spec_machine.specs.Machine.{Frame, gather, and, wait, branch, check, Control, val, eval, exec, Saved, saved, RunEnv, State, exception, calling, returned, running, arguments}

-- the limits: of saved callers, main's empty one included, and of the frames of all activations together
abbrev pub caller_limit : ℕ
caller_limit = 14

abbrev pub frame_limit : ℕ
frame_limit = 512

abbrev pub saved_frame_count : List Saved → ℕ
saved_frame_count [] = 0
saved_frame_count (saved g θ L ∷ A) = length L + saved_frame_count A

abbrev pub WithinLimits : State → Type 0
WithinLimits (State.value c) = Unit {0}
WithinLimits (exception x) = Unit {0}
WithinLimits (calling α o) = Unit {0}
WithinLimits (returned α c) = Unit {0}
WithinLimits (running c α f η K A) = (1 + length A ≤ caller_limit) × (length K + saved_frame_count A ≤ frame_limit)

-- one level of an expression; by kind
abbrev pub is_expr : ExprForm → Bool
is_expr (const v) = true
is_expr (ExprForm.var x) = true
is_expr (apply h ns) = true
is_expr (ExprForm.and n m) = true
is_expr ExprForm.stray = false

-- one level of an expression that is a constant; by kind
abbrev pub is_const : ExprForm → Bool
is_const (const v) = true
is_const (ExprForm.var x) = false
is_const (apply h ns) = false
is_const (ExprForm.and n m) = false
is_const ExprForm.stray = false

-- one level of a statement; by kind
abbrev pub is_stmt : StmtForm → Bool
is_stmt StmtForm.nop = true
is_stmt (StmtForm.seq a b) = true
is_stmt (StmtForm.assign x n) = true
is_stmt (StmtForm.decl x a) = true
is_stmt (StmtForm.if n a b) = true
is_stmt (StmtForm.while w n a) = true
is_stmt (StmtForm.return n) = true
is_stmt (StmtForm.assert n) = true
is_stmt (StmtForm.expr n) = true
is_stmt StmtForm.stray = false

-- one level of a nop; by kind
abbrev pub is_nop : StmtForm → Bool
is_nop StmtForm.nop = true
is_nop (StmtForm.seq a b) = false
is_nop (StmtForm.assign x n) = false
is_nop (StmtForm.decl x a) = false
is_nop (StmtForm.if n a b) = false
is_nop (StmtForm.while w n a) = false
is_nop (StmtForm.return n) = false
is_nop (StmtForm.assert n) = false
is_nop (StmtForm.expr n) = false
is_nop StmtForm.stray = false

-- a statement of the function; a nop is known by no node
abbrev pub owned : Program → ℕ → Ref → Bool
owned P f (node n) = owns P f n && not (is_nop (P.see f (node n)))
owned P f Ref.nop = true
owned P f (if_of n) = owns P f n
owned P f (seq_of n) = owns P f n

abbrev pub IsExpr : Program → ℕ → ℕ → Type 0
IsExpr P f n = (owns P f n ≡ true) × (is_expr (P.look f n) ≡ true)

abbrev pub IsStmt : Program → ℕ → Ref → Type 0
IsStmt P f r = (owned P f r ≡ true) × (is_stmt (P.see f r) ≡ true)

abbrev pub AllExpr : Program → ℕ → List ℕ → Type 0
AllExpr P f [] = Unit {0}
AllExpr P f (n ∷ ns) = IsExpr P f n × AllExpr P f ns

-- the function has this variable
abbrev pub Var : Program → ℕ → ℕ → Type 0
Var P f x = x < length (var_types (P.fun f))

-- the program has this function
abbrev pub HasFunction : Program → ℕ → Type 0
HasFunction P f = f < P.funs

-- one of the sixteen operators, or a function of the program
abbrev pub KnownOperation : Program → Operation → Type 0
KnownOperation P (op o) = o < 16
KnownOperation P (fn g) = HasFunction P g

-- every variable that an expression, or a statement, reads has a value by then
abbrev pub Reads : Program → ℕ → ℕ → Set → Type 0
Reads P f n d = missing (P.reads f n) d ≡ None

abbrev pub Ok : Program → ℕ → Ref → Set → Type 0
Ok P f r d = lacks (P.stmt f r) d ≡ None

-- the same of several expressions
abbrev pub ReadsNodes : Program → ℕ → List ℕ → Set → Type 0
ReadsNodes P f [] d = Unit {0}
ReadsNodes P f (n ∷ ns) d = Reads P f n d × ReadsNodes P f ns d

-- what a variable holds: nothing, or a value of its type
abbrev pub HoldsTyped : Value → Ty → Type 0
HoldsTyped v t = (v ≡ nothing) ⊎ (type_v v ≡ t)

abbrev pub AllHoldTyped : List Value → List Ty → Type 0
AllHoldTyped [] [] = Unit {0}
AllHoldTyped [] (t ∷ ts) = ⊥
AllHoldTyped (v ∷ vs) [] = ⊥
AllHoldTyped (v ∷ vs) (t ∷ ts) = HoldsTyped v t × AllHoldTyped vs ts

abbrev pub is_some : Value → Bool
is_some nothing = false
is_some (int n) = true
is_some (truth b) = true

-- the variables that hold values
abbrev pub held : List Value → Set
held η x = is_some (get_or η x nothing)

-- frames that are given no value: waiting statements alone; by frame
abbrev pub TakesNone : Program → ℕ → List Frame → Type 0
TakesNone P f [] = Unit {0}
TakesNone P f (gather h vs ns ∷ K) = ⊥
TakesNone P f (and n ∷ K) = ⊥
TakesNone P f (wait r ∷ K) = IsStmt P f r × TakesNone P f K
TakesNone P f (Frame.store x ∷ K) = ⊥
TakesNone P f (branch a b ∷ K) = ⊥
TakesNone P f (Frame.leave ∷ K) = ⊥
TakesNone P f (check ∷ K) = ⊥
TakesNone P f (Frame.discard ∷ K) = ⊥

-- frames that are given a value of type t; by frame
abbrev pub Takes : Program → ℕ → Ty → List Frame → Type 0
Takes P f t [] = ⊥
Takes P f t (gather h vs ns ∷ K) = (wants P h ≡ map type_v vs ++ (t ∷ map (type_n P f) ns)) × AllExpr P f ns × if_given (gives P h) (λ u. Takes P f u K) (TakesNone P f K) × KnownOperation P h
Takes P f t (and n ∷ K) = (t ≡ t_bool) × IsExpr P f n × (type_n P f n ≡ t_bool) × Takes P f t_bool K
Takes P f t (wait r ∷ K) = ⊥
Takes P f t (Frame.store x ∷ K) = (t ≡ type_of_var (P.fun f) x) × Var P f x × TakesNone P f K
Takes P f t (branch a b ∷ K) = (t ≡ t_bool) × IsStmt P f a × IsStmt P f b × TakesNone P f K
Takes P f t (Frame.leave ∷ K) = (t ≡ (P.fun f).result) × TakesNone P f K
Takes P f t (check ∷ K) = (t ≡ t_bool) × TakesNone P f K
Takes P f t (Frame.discard ∷ K) = TakesNone P f K

-- the control, over its frames
abbrev pub ControlOver : Program → ℕ → Control → List Frame → Type 0
ControlOver P f (val v) K = Takes P f (type_v v) K
ControlOver P f (eval n) K = IsExpr P f n × (is_const (P.look f n) ≡ false) × Takes P f (type_n P f n) K
ControlOver P f (exec r) K = IsStmt P f r × TakesNone P f K

-- rule 13 followed through control and frames; by frame
abbrev pub Flows : Program → ℕ → List Frame → Set → Type 0
Flows P f [] d = Unit {0}
Flows P f (gather h vs ns ∷ K) d = ReadsNodes P f ns d × Flows P f K d
Flows P f (and n ∷ K) d = Reads P f n d × Flows P f K d
Flows P f (wait r ∷ K) d = Ok P f r d × Flows P f K (leaves (P.stmt f r) d)
Flows P f (Frame.store x ∷ K) d = Flows P f K (with d x)
Flows P f (branch a b ∷ K) d = Ok P f a d × Ok P f b d × Flows P f K (both (leaves (P.stmt f a) d) (leaves (P.stmt f b) d))
Flows P f (Frame.leave ∷ K) d = Flows P f K (either d (below most_variables))
Flows P f (check ∷ K) d = Flows P f K d
Flows P f (Frame.discard ∷ K) d = Flows P f K d

abbrev pub FlowsFrom : Program → ℕ → Control → List Frame → Set → Type 0
FlowsFrom P f (val v) K d = Flows P f K d
FlowsFrom P f (eval n) K d = Reads P f n d × Flows P f K d
FlowsFrom P f (exec r) K d = Ok P f r d × Flows P f K (leaves (P.stmt f r) d)

-- rule 14: some control or frame still to come returns; by frame
abbrev pub comes : Program → ℕ → List Frame → Bool
comes P f [] = false
comes P f (gather h vs ns ∷ K) = comes P f K
comes P f (and n ∷ K) = comes P f K
comes P f (wait r ∷ K) = returns (P.stmt f r) || comes P f K
comes P f (Frame.store x ∷ K) = comes P f K
comes P f (branch a b ∷ K) = (returns (P.stmt f a) && returns (P.stmt f b)) || comes P f K
comes P f (Frame.leave ∷ K) = true
comes P f (check ∷ K) = comes P f K
comes P f (Frame.discard ∷ K) = comes P f K

abbrev pub comes_from : Program → ℕ → Control → List Frame → Bool
comes_from P f (val v) K = comes P f K
comes_from P f (eval n) K = comes P f K
comes_from P f (exec r) K = returns (P.stmt f r) || comes P f K

-- the function that a run is started with is main
abbrev pub Entry : Program → ℕ → Type 0
Entry P e = e ≡ 0

-- the saved callers of a running function: each wants its callee's result; the entry function e is entered over the empty caller
abbrev pub Callers : Program → ℕ → ℕ → List Saved → Type 0
Callers P e f [] = f ≡ e
Callers P e f (saved g θ L ∷ A) =
    AllHoldTyped θ (var_types (P.fun g)) × Takes P g (P.fun f).result L × Flows P g L (held θ) × (comes P g L ≡ true) × Callers P e g A × HasFunction P g

pub record Running (P : Program) (c : Control) (α : RunEnv) (f : ℕ) (η : List Value) (K : List Frame) (A : List Saved) : Type 0 where
  pub entry : Entry P α.entry
  pub callers : Callers P α.entry f A
  pub known : HasFunction P f
  pub holds : AllHoldTyped η (var_types (P.fun f))
  pub frames : ControlOver P f c K
  pub flows : FlowsFrom P f c K (held η)
  pub returns : comes_from P f c K ≡ true

abbrev pub Proper : Program → State → Type 0
Proper P (State.value c) = Unit {0}
Proper P (exception x) = Unit {0}
Proper P (calling α o) = Entry P α.entry × ((P.fun α.entry).params ≡ map type_v (arguments o))
Proper P (returned α c) = Entry P α.entry
Proper P (running c α f η K A) = Running P c α f η K A

-- every int is a word of 32 bits, in the environment of the run
abbrev pub IsWord : RunEnv → Value → Type 0
IsWord α nothing = Unit {0}
IsWord α (int n) = n < 2 ^ 32
IsWord α (truth b) = Unit {0}

abbrev pub AllWords : RunEnv → List Value → Type 0
AllWords α [] = Unit {0}
AllWords α (v ∷ vs) = IsWord α v × AllWords α vs

-- every int in the frames is a word of 32 bits; by frame
abbrev pub FramesInWords : RunEnv → List Frame → Type 0
FramesInWords α [] = Unit {0}
FramesInWords α (gather h vs ns ∷ K) = AllWords α vs × FramesInWords α K
FramesInWords α (and n ∷ K) = FramesInWords α K
FramesInWords α (wait r ∷ K) = FramesInWords α K
FramesInWords α (Frame.store x ∷ K) = FramesInWords α K
FramesInWords α (branch a b ∷ K) = FramesInWords α K
FramesInWords α (Frame.leave ∷ K) = FramesInWords α K
FramesInWords α (check ∷ K) = FramesInWords α K
FramesInWords α (Frame.discard ∷ K) = FramesInWords α K

abbrev pub ControlInWord : RunEnv → Control → Type 0
ControlInWord α (val v) = IsWord α v
ControlInWord α (eval n) = Unit {0}
ControlInWord α (exec r) = Unit {0}

abbrev pub SavedInWords : RunEnv → List Saved → Type 0
SavedInWords α [] = Unit {0}
SavedInWords α (saved g θ L ∷ A) = AllWords α θ × FramesInWords α L × SavedInWords α A

abbrev pub InWords : State → Type 0
InWords (State.value c) = c < 2 ^ 32
InWords (exception x) = Unit {0}
InWords (calling α o) = AllWords α (arguments o)
InWords (returned α c) = c < 2 ^ 32
InWords (running c α f η K A) = ControlInWord α c × AllWords α η × FramesInWords α K × SavedInWords α A

-- a fit state
pub record Fit (P : Program) (s : State) : Type 0 where
  pub words : InWords s
  pub within : WithinLimits s
  pub proper : Proper P s
