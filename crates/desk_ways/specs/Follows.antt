-- What the walk over a statement finds.
use Rattle.std.specs.Prelude.{◌≡◌}
use Rattle.varset.specs.Sets.{Set, has}
use Rattle.spec_language.specs.Statements.{Statement}
use Rattle.spec_language.specs.Flow.{declares, leaves}
use Rattle.desk_ways.specs.declared.flow.Flow.{Flow}

-- the answer of a walk over the statement s begun with the variables d
pub record Follows (s : Statement) (d : Set) (r : Flow) : Type 0 where
  pub left : has r.left.0 ≡ leaves s d
  pub declared : has r.declared.0 ≡ declares s
