-- What questions 4, 7 and 8 show of a part's nodes, and the later questions lean on to be safe.
use Rattle.std.specs.Prelude.{◌≡◌, Bool, true, false, ◌||◌, List, ℕ, ◌+◌, ◌*◌, ◌≤◌, ◌<◌, eqb, length}
use Rattle.records.specs.Fields.{kind_at, a_at, b_at, size_at}
use Rattle.records.specs.Children.{arity_at}
use Rattle.spec_language.specs.Scopes.{uses_variable}
use Rattle.spec_language.specs.Nodes.{size_ok, misplaced}
use Rattle.records.specs.Format.{most_variables}

-- a kind whose b is a variable; by kind
unfoldable pub names_variable : ℕ → Bool
names_variable kind = uses_variable kind || eqb kind 9

-- of n nodes of a part
pub record Known (t : List ℕ) (n : ℕ) : Type 0 where
  pub child : (i : ℕ) → i < n → 0 < arity_at t i → 0 < i
  pub sized : (i : ℕ) → i < n → size_at t i ≤ i + 1
  pub variable : (i : ℕ) → i < n → names_variable (kind_at t i) ≡ true → b_at t i < most_variables
  pub arguments : (i : ℕ) → i < n → kind_at t i ≡ 5 → a_at t i ≤ 8

-- the n nodes of a part are those of a tree: questions 7, 8 and 9 find nothing
pub record WellFormed (t : List ℕ) (n : ℕ) : Type 0 where
  pub inside : 12 * n ≤ length t
  pub nodes : Known t n
  pub sized : (i : ℕ) → i < n → size_ok t n i ≡ true
  pub placed : (i : ℕ) → i < n → misplaced t n i ≡ false

-- the calls among n nodes of a part are of the first F functions
abbrev pub CallsKnown : ℕ → List ℕ → ℕ → Type 0
CallsKnown F t n = (i : ℕ) → i < n → kind_at t i ≡ 5 → b_at t i < F
