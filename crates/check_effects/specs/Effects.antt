-- What a statement's effect says of it.
use Rattle.std.specs.Prelude.{None, ◌≡◌, true, List, ℕ}
use Rattle.varset.specs.Sets.{Set, has, Sub}
use Rattle.spec_language.specs.Statements.{Read, Statement}
use Rattle.spec_language.specs.Flow.{declares, leaves, missing, lacks, returns}
use Rattle.check_effects.specs.declared.Effect.{Effect}

-- the code of a statement; the code of an expression, which is its type, is below it
abbrev pub statement_code : ℕ
statement_code = 16

-- the code of a statement that returns
abbrev pub return_code : ℕ
return_code = 17

-- every variable read is one of these
abbrev pub Covers : List Read → Set → Type 0
Covers rs r = (d : Set) → Sub r d → missing rs d ≡ None

-- what an effect says of a statement, where the variables in d are declared up to there
pub record Means (s : Statement) (d : Set) (e : Effect) : Type 0 where
  pub reading : (a : Set) → Sub (has e.reads.0) a → lacks s a ≡ None
  pub setting : (a : Set) → Sub (has e.sets.0) (leaves s a)
  pub declared : Sub (declares s) d
  pub returning : e.code ≡ return_code → returns s ≡ true
