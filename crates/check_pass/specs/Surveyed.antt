-- What the pass before a part is judged shows.
use Rattle.std.specs.Prelude.{None, ◌≡◌, not, List, ℕ, ◌<◌}
use Rattle.varset.specs.Lowest.{lowest}
use Rattle.records.specs.Fields.{vars_of}
use Rattle.records.specs.Search.{first_of}
use Rattle.spec_language.specs.Nodes.{node_ok, undeclared, first_undeclared}
use Rattle.check_scopes.specs.Counts.{Decls}

-- question 7 finds nothing in the part of function f, of n nodes, nor does 10 where r is above it, and the table has its decls
pub record Surveyed (s : List ℕ) (f : ℕ) (t : List ℕ) (n : ℕ) (table : List ℕ) (r : ℕ) : Type 0 where
  pub seven : first_of (λ i. not (node_ok s f t i)) n ≡ None
  pub ten : 10 < r → first_undeclared (lowest (undeclared s f t n) (vars_of s f)) (vars_of s f) ≡ None
  pub told : Decls t n table
