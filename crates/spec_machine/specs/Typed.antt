-- Every value that a state holds has its declared type.
use Rattle.std.specs.Prelude.{◌≡◌, true, List, [], ◌∷◌, ◌++◌, ℕ, ◌<◌, ◌^◌, get_or}
use Rattle.spec_machine.specs.Values.{Ty, t_int, t_bool, Value, nothing, type_v}
use Rattle.spec_machine.specs.Program.{Program, type_of_var, wants}
use Rattle.spec_machine.specs.Machine.{Frame, gather, and, wait, branch, check, Control, val, eval, exec, Saved, saved, RunEnv, State, exception, calling, returned, running, arguments}
use Rattle.spec_machine.specs.Fit.{held, IsWord}

-- a value of type t, an int being a word of 32 bits
abbrev pub Of : RunEnv → Value → Ty → Type 0
Of α v t = (type_v v ≡ t) × IsWord α v

-- values of the first of these types, in order
abbrev pub AllOf : RunEnv → List Value → List Ty → Type 0
AllOf α [] ts = Unit {0}
AllOf α (v ∷ vs) [] = ⊥
AllOf α (v ∷ vs) (t ∷ ts) = Of α v t × AllOf α vs ts

-- a variable of function f that holds a value holds one of its type
abbrev pub VariablesTyped : Program → RunEnv → ℕ → List Value → Type 0
VariablesTyped P α f η = (x : ℕ) → held η x ≡ true → Of α (get_or η x nothing) (type_of_var (P.fun f) x)

-- operands are what the operator wants at their places, arguments what the parameters want at theirs; by frame
abbrev pub OperandsTyped : Program → RunEnv → List Frame → Type 0
OperandsTyped P α [] = Unit {0}
OperandsTyped P α (gather h vs ns ∷ K) = AllOf α vs (wants P h) × OperandsTyped P α K
OperandsTyped P α (and n ∷ K) = OperandsTyped P α K
OperandsTyped P α (wait r ∷ K) = OperandsTyped P α K
OperandsTyped P α (Frame.store x ∷ K) = OperandsTyped P α K
OperandsTyped P α (branch a b ∷ K) = OperandsTyped P α K
OperandsTyped P α (Frame.leave ∷ K) = OperandsTyped P α K
OperandsTyped P α (check ∷ K) = OperandsTyped P α K
OperandsTyped P α (Frame.discard ∷ K) = OperandsTyped P α K

-- the value at hand is of the type that the frame under it wants: as an operand or argument it is the next one; discard takes any; by frame
abbrev pub AtHand : Program → RunEnv → ℕ → Value → List Frame → Type 0
AtHand P α f v [] = Of α v t_int
AtHand P α f v (gather h vs ns ∷ K) = AllOf α (vs ++ (v ∷ [])) (wants P h)
AtHand P α f v (and n ∷ K) = Of α v t_bool
AtHand P α f v (wait r ∷ K) = ⊥
AtHand P α f v (Frame.store x ∷ K) = Of α v (type_of_var (P.fun f) x)
AtHand P α f v (branch a b ∷ K) = Of α v t_bool
AtHand P α f v (Frame.leave ∷ K) = Of α v (P.fun f).result
AtHand P α f v (check ∷ K) = Of α v t_bool
AtHand P α f v (Frame.discard ∷ K) = IsWord α v

abbrev pub Hand : Program → RunEnv → ℕ → Control → List Frame → Type 0
Hand P α f (val v) K = AtHand P α f v K
Hand P α f (eval n) K = Unit {0}
Hand P α f (exec r) K = Unit {0}

-- saved callers' variables and frames
abbrev pub SavedTyped : Program → RunEnv → List Saved → Type 0
SavedTyped P α [] = Unit {0}
SavedTyped P α (saved g θ L ∷ A) = VariablesTyped P α g θ × OperandsTyped P α L × SavedTyped P α A

-- all values of a state have their declared types; the program's value is an int
abbrev pub Typed : Program → State → Type 0
Typed P (State.value c) = c < 2 ^ 32
Typed P (exception x) = Unit {0}
Typed P (calling α o) = AllOf α (arguments o) (P.fun α.entry).params
Typed P (returned α c) = c < 2 ^ 32
Typed P (running c α f η K A) = VariablesTyped P α f η × Hand P α f c K × OperandsTyped P α K × SavedTyped P α A
