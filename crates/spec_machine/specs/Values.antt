-- Values and their types.
use Rattle.std.specs.Prelude.{Bool, ℕ}
use Rattle.std.proofs.Math.Option.{Option, none, some}
use Rattle.arith.specs.Operators.{applied}
use Rattle.arith.specs.declared.Applied.{Applied}
use Rattle.arith.specs.declared.Applied.TheVariants.{Int, Truth, Arith}

-- an int is its word of 32 bits
pub data Value : Type 0 where
  nothing : Value
  int : ℕ → Value
  truth : Bool → Value

-- a type by the file's number
abbrev pub Ty : Type 0
Ty = ℕ

abbrev pub t_none : Ty
t_none = 0

abbrev pub t_int : Ty
t_int = 1

abbrev pub t_bool : Ty
t_bool = 2

-- the type of a value
abbrev pub type_v : Value → Ty
type_v nothing = t_none
type_v (int n) = t_int
type_v (truth b) = t_bool

-- the value that an operator's result is, none where it raises arith
abbrev pub result_value : Applied → Option Value
result_value (Int n) = some (int n)
result_value (Truth b) = some (truth b)
result_value Arith = none

-- the result of operator o in an edition
unfoldable pub result : ℕ → ℕ → ℕ → ℕ → Option Value
result edition o a b = result_value (applied edition o a b)
