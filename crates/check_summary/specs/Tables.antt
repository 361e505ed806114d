-- The table of a part: five words a node.
use Rattle.std.specs.Prelude.{◌≡◌, Bool, true, false, List, ℕ, ◌+◌, ◌*◌, ◌%◌, ◌≤◌, ◌<◌, eqb, leb, length, get_or}
use Rattle.varset.specs.Sets.{Set, has, Sub}
use Rattle.records.specs.Fields.{kind_at, b_at}
use Rattle.spec_language.specs.Sorts.{is_expression}
use Rattle.spec_language.specs.Statements.{Statement, reads_of, statement_at}
use Rattle.check_summary.specs.Summary.{Needs, Summary}

-- the nodes from lo on and before hi read variables of d alone
abbrev pub ReadsWithin : List ℕ → ℕ → ℕ → Set → Type 0
ReadsWithin t lo hi d = (j : ℕ) → lo ≤ j → j < hi → kind_at t j ≡ 2 → d (b_at t j) ≡ true

-- they do exactly where the word's members are in d
pub record Range (t : List ℕ) (lo hi word : ℕ) : Type 0 where
  pub enough : (d : Set) → Sub (has word) d → ReadsWithin t lo hi d
  pub wanted : (d : Set) → ReadsWithin t lo hi d → Sub (has word) d

-- word k of the row of node i
unfoldable pub word_of : List ℕ → ℕ → ℕ → ℕ
word_of table i k = get_or table (5 * i + k) 0

-- the flags in a row's first word
unfoldable pub fails_in : ℕ → Bool
fails_in flags = eqb (flags % 2) 1

unfoldable pub returns_in : ℕ → Bool
returns_in flags = leb 2 flags

-- the row of node i says what the statement does
abbrev pub RowSays : Statement → List ℕ → ℕ → Type 0
RowSays s table i = Summary s (fails_in (word_of table i 0)) (returns_in (word_of table i 0)) (word_of table i 1) (word_of table i 2) (word_of table i 3) (word_of table i 4)

-- the rows of the first i nodes of a part say what its expressions need and what its statements do
pub record RowsFilled (t table : List ℕ) (i : ℕ) : Type 0 where
  pub reads : (k : ℕ) → k < i → is_expression (kind_at t k) ≡ true → Needs (reads_of t k) (word_of table k 1)
  pub flows : (k : ℕ) → k < i → is_expression (kind_at t k) ≡ false → RowSays (statement_at t k) table k

-- the table of all n nodes of a part
abbrev pub TableSays : List ℕ → ℕ → List ℕ → Type 0
TableSays t n table = RowsFilled t table n × (5 * n ≤ length table)
