use borrow.Author.Rules.{rules}
use Rattle.check_scopes.proofs.Decls.{param_inside, strays_is, decl_fits}
use Rattle.check_scopes.proofs.strays.Goals as goal

pub returns-then-x-wide : goal.returns-then-x-wide
returns-then-x-wide c = param_inside _ _ _ _ _ c.requires.uses.0 (rw (← c.b_at-x.ensures, ← c.params_of.ensures, ← c.wide.ensures.0) c.if-x-wide.true)

pub is_under-requires : goal.is_under-requires
is_under-requires c = (decl_fits _ c.args.decls.now _ _ _ c.requires.inside.0 (search rules) c.requires.told c.b_at-x.ensures c.requires.uses.1, search rules)

pub returns : goal.returns
returns c = rw c.is_under.ensures (strays_is _ _ _ _ _ c.requires.uses.0 _ (rw (← c.b_at-x.ensures, ← c.params_of.ensures, ← c.wide.ensures.0) c.if-x-wide.false) (rw (← c.b_at-x.ensures) (c.requires.told _ (rw c.b_at-x.ensures c.requires.uses.1))))
