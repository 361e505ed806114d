-- The answer of look-up, by what it tells.
use Rattle.arith.specs.Int as arith
use Rattle.spec_machine.specs.Values.{Value, nothing, int, truth}
use Rattle.std.specs.Prelude.{Result, Ok, Err}
use Rattle.spec_answers.specs.Answers as answers
use Rattle.spec_answers.specs.Answers.{granted, denied}
use Rattle.check_file.specs.Answers.{refusal_of, SmallRefusal}
use Rattle.check_file.specs.declared.Refusal.{Refusal}
use Rattle.entry_memory.specs.declared.Look.{Look}
use Rattle.entry_memory.specs.declared.Look.TheVariants.{Nothing, Int, Truth}

-- nothing, a signed int, a bool, or the refusal
unfoldable pub look_of : answers.Result Value → Result Look Refusal
look_of (granted nothing) = Ok Nothing
look_of (granted (int n)) = Ok (Int (arith.int n))
look_of (granted (truth b)) = Ok (Truth b)
look_of (denied question place item) = Err (refusal_of question place item)

-- an answer whose refusal is small
abbrev pub SmallLook : Result Look Refusal → Type 0
SmallLook (Ok l) = Unit {0}
SmallLook (Err r) = SmallRefusal r
