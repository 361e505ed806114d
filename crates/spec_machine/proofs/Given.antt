-- What an operation gives: what holds of the type of its value, or where it gives none.
use mathlib.Core.Bool.{Bool}
use mathlib.Core.List.{List}
use mathlib.Core.Option.{Option, none, some}
use Prim.Native.Nat.{ℕ}
use Rattle.spec_machine.specs.Values.{Ty}
use Rattle.spec_machine.specs.Program.{Operation, op, fn, apply, Program, type_l, gives, if_given}
use Rattle.spec_machine.specs.Machine.{Frame}
use Rattle.spec_machine.specs.Fit.{TakesNone, Takes}
use Rattle.spec_machine.proofs.Says.{Says}

-- what follows in both cases
pub of_given : (o : Option Ty) {B : Ty → Type 0} {A C : Type 0} → ((t : Ty) → B t → C) → (A → C) → if_given o B A → C
of_given none b a x = a x
of_given (some t) b a x = b t x

-- a test by cases says a statement by cases
pub gives_says : (o : Option Ty) {b : Ty → Bool} {a : Bool} {B : Ty → Type 0} {A : Type 0} → ((t : Ty) → Says (b t) (B t)) → Says a A
    → Says (if_given o b a) (if_given o B A)
gives_says none p q = q
gives_says (some t) p q = p t

-- frames that take the value of an expression take what its operation gives
pub expression_gives : (P : Program) (f : ℕ) (h : Operation) (ns : List ℕ) (K : List Frame) → Takes P f (type_l P f (apply h ns)) K
    → if_given (gives P h) (λ t. Takes P f t K) (TakesNone P f K)
expression_gives P f (op o) ns K k = k
expression_gives P f (fn g) ns K k = k
