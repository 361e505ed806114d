use mathlib.Core.Path.{refl, sym, ◌∙◌}
use Rattle.spec_language.specs.Scopes.{uses_variable}
use Rattle.check_types.proofs.TypeTables.{var_known}
use Rattle.check_types.proofs.want_of.Goals as goal

pub var_type-requires-clause-inside : goal.var_type-requires-clause-inside
unfolding uses_variable
var_type-requires-clause-inside c = var_known _ _ _ _ 8 c.requires.inside.0 c.requires.inside.1 c.requires.known.0 (sym c.kind_at-kind.ensures ∙ c.in-8.is) refl c.b_at.ensures
