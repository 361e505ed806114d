use mathlib.Core.Path.{refl, sym, ◌∙◌}
use Rattle.check_scopes.proofs.Decls.{counts_other, counts_again, counts_new}
use Rattle.check_scopes.proofs.count_decl.Goals as goal

pub returns-then-kind_at-ne9 : goal.returns-then-kind_at-ne9
returns-then-kind_at-ne9 c = counts_other _ _ _ c.requires.counted (λ e. c.if-kind_at-ne9.true (c.kind_at.ensures ∙ e))

pub returns-then-contains : goal.returns-then-contains
returns-then-contains c = counts_again _ _ _ _ c.requires.counted (sym c.kind_at.ensures ∙ c.if-kind_at-ne9.false) c.b_at-x.ensures _ (sym c.contains.ensures ∙ c.if-contains.true) refl c.insert.ensures

pub returns-else-contains : goal.returns-else-contains
returns-else-contains c = counts_new _ _ _ _ c.requires.counted (sym c.kind_at.ensures ∙ c.if-kind_at-ne9.false) c.b_at-x.ensures _ (sym c.contains.ensures ∙ c.if-contains.false) c.insert-else-contains.ensures refl
