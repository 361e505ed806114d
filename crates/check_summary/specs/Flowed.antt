-- What the walk through a statement answers.
use Rattle.std.specs.Prelude.{◌≡◌}
use Rattle.varset.specs.Sets.{Set, has}
use Rattle.spec_language.specs.Statements.{Statement}
use Rattle.spec_language.specs.Flow.{leaves, lacks}
use Rattle.records.specs.Search.{clear}
use Rattle.check_summary.specs.declared.Flowed.{Flowed}

-- the answer for the statement s begun with the variables d
pub record FlowedIs (s : Statement) (d : Set) (r : Flowed) : Type 0 where
  pub ok : r.ok ≡ clear (lacks s d)
  pub left : has r.left.0 ≡ leaves s d
