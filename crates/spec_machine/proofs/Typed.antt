-- Values in unfinished work have their declared types.
use mathlib.Core.Path.{◌≡◌, refl}
use mathlib.Core.Bool.{true}
use mathlib.Core.List.{List, [], ◌∷◌, ◌++◌, map, append-nil}
use Prim.Native.Nat.{ℕ}
use lib.ListN.{get_or}
use Rattle.spec_machine.specs.Values.{Ty, t_none, t_bool, Value, nothing, type_v}
use Rattle.spec_machine.specs.Program.{Program, type_n, var_types, gives}
use Rattle.spec_machine.specs.Machine.{Frame, gather, and, wait, branch, check, val, eval, exec, Saved, saved, RunEnv, State, exception, calling, returned, running, arguments}
use Rattle.spec_machine.specs.Typed.{Of, AllOf, OperandsTyped, AtHand, SavedTyped, Typed}
use Rattle.spec_machine.specs.Fit.{AllHoldTyped, held, TakesNone, Takes, Callers, IsWord, AllWords, FramesInWords, SavedInWords, Fit}
use Rattle.spec_machine.proofs.Given.{of_given}
use Rattle.spec_machine.proofs.Holding.{read_type}
use Rattle.spec_machine.proofs.KeepWords.{word_at}

module _ (α : RunEnv) where
  variables : (η : List Value) (ts : List Ty) → AllHoldTyped η ts → AllWords α η → (x : ℕ) → held η x ≡ true → Of α (get_or η x nothing) (get_or ts x t_none)
  variables η ts h w x e = (read_type η ts x h e, word_at α η x w)

  -- values before others are of their own types
  front : (vs : List Value) (ts : List Ty) → AllWords α vs → AllOf α vs (map type_v vs ++ ts)
  front [] ts w = tt
  front (v ∷ vs) ts w = ((refl, w.0), front vs ts w.1)

  next : (vs : List Value) (v : Value) (ts : List Ty) → AllWords α vs → IsWord α v → AllOf α (vs ++ (v ∷ [])) (map type_v vs ++ (type_v v ∷ ts))
  next [] v ts w u = ((refl, u), tt)
  next (x ∷ vs) v ts w u = ((refl, w.0), next vs v ts w.1 u)

  none_operands : (P : Program) (f : ℕ) (K : List Frame) → TakesNone P f K → OperandsTyped P α K
  none_operands P f [] k = tt
  none_operands P f (gather h vs ns ∷ K) k = absurd k
  none_operands P f (and n ∷ K) k = absurd k
  none_operands P f (wait r ∷ K) k = none_operands P f K k.1
  none_operands P f (Frame.store x ∷ K) k = absurd k
  none_operands P f (branch a b ∷ K) k = absurd k
  none_operands P f (Frame.leave ∷ K) k = absurd k
  none_operands P f (check ∷ K) k = absurd k
  none_operands P f (Frame.discard ∷ K) k = absurd k

  operands : (P : Program) (f : ℕ) (t : Ty) (K : List Frame) → Takes P f t K → FramesInWords α K → OperandsTyped P α K
  operands P f t [] k w = absurd k
  operands P f t (gather h vs ns ∷ K) k w = (rw k.0 (front vs (t ∷ map (type_n P f) ns) w.0), of_given (gives P h) (λ u x. operands P f u K x w.1) (none_operands P f K) k.2)
  operands P f t (and n ∷ K) k w = operands P f t_bool K k.3 w
  operands P f t (wait r ∷ K) k w = absurd k
  operands P f t (Frame.store x ∷ K) k w = none_operands P f K k.2
  operands P f t (branch a b ∷ K) k w = none_operands P f K k.3
  operands P f t (Frame.leave ∷ K) k w = none_operands P f K k.1
  operands P f t (check ∷ K) k w = none_operands P f K k.1
  operands P f t (Frame.discard ∷ K) k w = none_operands P f K k

  hand : (P : Program) (f : ℕ) (v : Value) (K : List Frame) → Takes P f (type_v v) K → IsWord α v → FramesInWords α K → AtHand P α f v K
  hand P f v [] k u w = absurd k
  hand P f v (gather h vs ns ∷ K) k u w = rw k.0 (next vs v (map (type_n P f) ns) w.0 u)
  hand P f v (and n ∷ K) k u w = (k.0, u)
  hand P f v (wait r ∷ K) k u w = k
  hand P f v (Frame.store x ∷ K) k u w = (k.0, u)
  hand P f v (branch a b ∷ K) k u w = (k.0, u)
  hand P f v (Frame.leave ∷ K) k u w = (k.0, u)
  hand P f v (check ∷ K) k u w = (k.0, u)
  hand P f v (Frame.discard ∷ K) k u w = u

  saved_typed : (P : Program) (e f : ℕ) (A : List Saved) → Callers P e f A → SavedInWords α A → SavedTyped P α A
  saved_typed P e f [] k w = tt
  saved_typed P e f (saved g θ L ∷ A) k w =
      (variables θ (var_types (P.fun g)) k.0 w.0, operands P g (P.fun f).result L k.1 w.1, saved_typed P e g A k.4 w.2)

pub typed : (P : Program) (s : State) → Fit P s → Typed P s
typed P (State.value c) o = o.words
typed P (exception x) o = tt
typed P (calling α a) o = rw (o.proper.1, ← append-nil (map type_v (arguments a))) (front α (arguments a) [] o.words)
typed P (returned α c) o = o.words
typed P (running (val v) α f η K A) o =
    let p = o.proper in
    let w = o.words in (
      variables α η (var_types (P.fun f)) p.holds w.1,
      hand α P f v K p.frames w.0 w.2,
      operands α P f (type_v v) K p.frames w.2,
      saved_typed α P α.entry f A p.callers w.3,
    )
typed P (running (eval n) α f η K A) o =
    let p = o.proper in
    let w = o.words in
    (variables α η (var_types (P.fun f)) p.holds w.1, tt, operands α P f (type_n P f n) K p.frames.2 w.2, saved_typed α P α.entry f A p.callers w.3)
typed P (running (exec r) α f η K A) o =
    let p = o.proper in
    let w = o.words in
    (variables α η (var_types (P.fun f)) p.holds w.1, tt, none_operands α P f K p.frames.1, saved_typed α P α.entry f A p.callers w.3)
