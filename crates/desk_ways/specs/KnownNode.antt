-- What Known says of one node, as a test.
use Rattle.std.specs.Prelude.{Bool, not, ◌&&◌, ◌||◌, List, ℕ, ◌+◌, eqb, leb, ltb}
use Rattle.records.specs.Fields.{kind_at, a_at, b_at, size_at}
use Rattle.records.specs.Children.{arity_at}
use Rattle.records.specs.Format.{most_variables, most_parameters}
use Rattle.spec_language.specs.Known.{names_variable}

-- its children stand before it, its subtree is among the nodes up to it, its variable and its arguments are as many as there can be
unfoldable pub known_node : List ℕ → ℕ → Bool
known_node t i =
    (eqb (arity_at t i) 0 || ltb 0 i)
    && (leb (size_at t i) (i + 1)
    && ((not (names_variable (kind_at t i)) || ltb (b_at t i) most_variables)
    && (not (eqb (kind_at t i) 5) || leb (a_at t i) most_parameters)))
