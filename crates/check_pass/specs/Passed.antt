-- What a pass over a part shows.
use Rattle.std.specs.Prelude.{None, ◌≡◌, true, false, List, ℕ, ◌-◌, ◌≤◌, ◌<◌, get_or}
use Rattle.varset.specs.Sets.{Set}
use Rattle.spec_language.specs.Statements.{statement_at}
use Rattle.spec_language.specs.Flow.{lacks, returns}
use Rattle.spec_language.specs.Nodes.{size_ok, misplaced, outside, mistyped, answers}

-- a part of n nodes, begun with these variables, passes those of questions 8, 9 and 11 to 14 that are below r
pub record Passed (s : List ℕ) (f : ℕ) (t : List ℕ) (n : ℕ) (begun : Set) (r : ℕ) : Type 0 where
  pub sized : 8 < r → (i : ℕ) → i < n → size_ok t n i ≡ true
  pub placed : 9 < r → (i : ℕ) → i < n → misplaced t n i ≡ false
  pub scoped : 11 < r → (i : ℕ) → i < n → outside s f t n i ≡ false
  pub typed : 12 < r → (i : ℕ) → i < n → mistyped s f t n i ≡ false
  pub reading : 13 < r → lacks (statement_at t (n - 1)) begun ≡ None
  pub returning : 14 < r → returns (statement_at t (n - 1)) ≡ true

-- the questions from 7 to before r find nothing in the part of function f, of n nodes
abbrev pub ClearBelow : List ℕ → ℕ → List ℕ → ℕ → ℕ → Type 0
ClearBelow s f t n r = (q : ℕ) → 7 ≤ q → q < r → get_or (answers s f t n) (q - 7) None ≡ None
