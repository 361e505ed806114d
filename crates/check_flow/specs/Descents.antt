-- What a search for the first empty read stands for while it goes on.
use Rattle.std.specs.Prelude.{Option, ⊤, List, ℕ, ◌<◌}
use Rattle.varset.specs.Sets.{has}
use Rattle.records.specs.declared.Found.{Found}
use Rattle.spec_language.specs.Statements.{statement_at}
use Rattle.spec_language.specs.Flow.{lacks}
use Rattle.check_flow.specs.declared.Descent.{Descent}
use Rattle.check_flow.specs.declared.Descent.TheVariants.{Over, Into}

-- what it finds: what it has found, or the first empty read of the statement where it goes on
abbrev pub lack_of : List ℕ → Descent → Option Found
lack_of t (Over found) = found
lack_of t (Into node set) = lacks (statement_at t node) (has set.0)

-- it is over, or goes on below node i
abbrev pub Below : ℕ → Descent → Type 0
Below i (Over found) = ⊤
Below i (Into node set) = node < i
