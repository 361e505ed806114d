-- What a row says of a statement.
use Rattle.spec_language.specs.Statements.{Statement}
use Rattle.check_summary.specs.Summary.{Summary}
use Rattle.check_summary.specs.declared.rows.Row.{Row}

abbrev pub Sums : Statement → Row → Type 0
Sums s r = Summary s r.fails r.returned r.needs.0 r.adds.0 r.drops.0 r.declared.0
