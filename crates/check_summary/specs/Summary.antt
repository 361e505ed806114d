-- What a statement, and the reads of an expression, do to any set of variables with values, said by words.
use Rattle.std.specs.Prelude.{None, ◌≡◌, Bool, false, List, ℕ}
use Rattle.varset.specs.Sets.{Set, has, either, less, Sub}
use Rattle.spec_language.specs.Statements.{Read, Statement}
use Rattle.spec_language.specs.Flow.{declares, leaves, missing, lacks, returns}

-- the reads find every variable they read in d exactly where the words' members are in d
pub record Needs (rs : List Read) (needs : ℕ) : Type 0 where
  pub enough : (d : Set) → Sub (has needs) d → missing rs d ≡ None
  pub wanted : (d : Set) → missing rs d ≡ None → Sub (has needs) d

-- a statement that fails passes from no set, and another exactly from the sets that have what it needs; what it drops, adds and declares
pub record Summary (s : Statement) (fails returned : Bool) (needs adds drops declared : ℕ) : Type 0 where
  pub enough : fails ≡ false → (d : Set) → Sub (has needs) d → lacks s d ≡ None
  pub wanted : (d : Set) → lacks s d ≡ None → (fails ≡ false) × Sub (has needs) d
  pub leaving : (d : Set) → leaves s d ≡ either (less d (has drops)) (has adds)
  pub declaring : declares s ≡ has declared
  pub returning : returns s ≡ returned
