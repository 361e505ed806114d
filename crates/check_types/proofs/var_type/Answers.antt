use mathlib.Core.Path.{refl, ◌∙◌}
use borrow.Author.Rules.{rules}
use Rattle.check_scopes.proofs.Decls.{decl_fits}
use Rattle.check_types.proofs.TypeTables.{var_param, var_decl}
use Rattle.check_types.proofs.var_type.Goals as goal

pub a_at-requires : goal.a_at-requires
a_at-requires c = decl_fits _ c.args.decls.now _ _ _ c.requires.inside.0 (search rules) c.requires.told refl c.requires.inside.2

pub returns-then-x-wide : goal.returns-then-x-wide
returns-then-x-wide c = c.param_type.ensures ∙ var_param _ _ _ _ _ (rw (← c.params_of.ensures, ← c.wide.ensures.0) c.if-x-wide.true)

pub returns-else-x-wide : goal.returns-else-x-wide
returns-else-x-wide c = c.a_at.ensures ∙ var_decl _ _ _ _ _ _ (rw (← c.params_of.ensures, ← c.wide.ensures.0) c.if-x-wide.false) (c.requires.told _ c.requires.inside.2)
