-- A function record in which no field is wrong passes question 4, and one that passes it has no wrong field.
use mathlib.Core.Path.{◌≡◌, refl}
use mathlib.Core.Bool.{Bool, true, false, ◌&&◌}
use mathlib.Core.List.{List}
use Prim.Native.Nat.{ℕ, ◌+◌, ◌/◌, ◌<◌}
use native.Mathlib.Omega.{arith}
use lib.ListN.{length}
use borrow.Author.Tests.{lt-leb}
use Rattle.spec_language.specs.Records.{function_ok}
use Rattle.desk_faults.specs.Records.{first_fault, function_fault}
use Rattle.desk_faults.specs.declared.FunctionFault.{FunctionFault}
use Rattle.desk_faults.specs.declared.FunctionFault.TheVariants.{Right}

differ : {A : Type 0} (x : FunctionFault) → x ≡ Right → (x ≡ Right → ◌≡◌ {A = ℕ} 0 1) → A
differ x e f = let z : ◌≡◌ {A = ℕ} 0 1 = f e in absurd (omega arith)

first_right : (a b c d e g h : Bool) → first_fault a b c d e g h ≡ Right → (a && (b && (c && (d && (e && (g && h)))))) ≡ true
unfolding first_fault
first_right false b c d e g h r = differ _ r (λ z. cc)
first_right true false c d e g h r = differ _ r (λ z. cc)
first_right true true false d e g h r = differ _ r (λ z. cc)
first_right true true true false e g h r = differ _ r (λ z. cc)
first_right true true true true false g h r = differ _ r (λ z. cc)
first_right true true true true true false h r = differ _ r (λ z. cc)
first_right true true true true true true false r = differ _ r (λ z. cc)
first_right true true true true true true true r = refl

right_first : (a b c d e g h : Bool) → (a && (b && (c && (d && (e && (g && h)))))) ≡ true → first_fault a b c d e g h ≡ Right
unfolding first_fault
right_first false b c d e g h r = let z : ◌≡◌ {A = ℕ} 0 1 = cc in absurd (omega arith)
right_first true false c d e g h r = let z : ◌≡◌ {A = ℕ} 0 1 = cc in absurd (omega arith)
right_first true true false d e g h r = let z : ◌≡◌ {A = ℕ} 0 1 = cc in absurd (omega arith)
right_first true true true false e g h r = let z : ◌≡◌ {A = ℕ} 0 1 = cc in absurd (omega arith)
right_first true true true true false g h r = let z : ◌≡◌ {A = ℕ} 0 1 = cc in absurd (omega arith)
right_first true true true true true false h r = let z : ◌≡◌ {A = ℕ} 0 1 = cc in absurd (omega arith)
right_first true true true true true true false r = let z : ◌≡◌ {A = ℕ} 0 1 = cc in absurd (omega arith)
right_first true true true true true true true r = refl

module _ (s : List ℕ) (f : ℕ) (h : 1 + f < length s / 12) where
  pub right_passes : function_fault s f ≡ Right → function_ok s f ≡ true
  unfolding function_fault function_ok
  right_passes e = first_right _ _ _ _ _ _ _ (rw (lt-leb (length s / 12) (1 + f) h) at e)

  pub passes_right : function_ok s f ≡ true → function_fault s f ≡ Right
  unfolding function_fault function_ok
  passes_right e = rw (lt-leb (length s / 12) (1 + f) h) (right_first _ _ _ _ _ _ _ e)
