-- Each function's nodes are one unbroken part, starting after the part before it.
use Rattle.std.specs.Prelude.{List, ℕ, zero, suc, ◌+◌, ◌*◌, ◌≤◌, ◌<◌, take, drop, length}
use Rattle.records.specs.Fields.{functions, params_of, vars_of, count_of}
use Rattle.records.specs.Format.{most_functions, most_nodes, most_parameters, most_variables}

-- the part counts of the first f functions together
unfoldable pub sum_of : List ℕ → ℕ → ℕ
sum_of s zero = 0
sum_of s (suc f) = sum_of s f + count_of s f

-- the record that function f's part starts at
unfoldable pub start_of : List ℕ → ℕ → ℕ
start_of s f = 1 + functions s + sum_of s f

-- the bytes of function f's part
unfoldable pub part_of : List ℕ → ℕ → List ℕ
part_of s f = take (12 * count_of s f) (drop (12 * start_of s f) s)

-- what questions 2 to 5 show: the parts lie in the file, and a function has few parameters and variables
pub record Laid (s : List ℕ) : Type 0 where
  pub few : functions s ≤ most_functions
  pub heads : 12 * (1 + functions s) ≤ length s
  pub fits : (f : ℕ) → f < functions s → 12 * (start_of s f + count_of s f) ≤ length s
  pub small : (f : ℕ) → f < functions s → count_of s f ≤ most_nodes
  pub some : (f : ℕ) → f < functions s → 1 ≤ count_of s f
  pub params : (f : ℕ) → f < functions s → params_of s f ≤ most_parameters
  pub vars : (f : ℕ) → f < functions s → vars_of s f ≤ most_variables
