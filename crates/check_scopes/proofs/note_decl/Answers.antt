use mathlib.Core.Path.{sym, ◌∙◌}
use Rattle.check_scopes.proofs.Decls.{noted_other, noted_more}
use Rattle.check_scopes.proofs.note_decl.Goals as goal

pub returns-then-kind_at-eq9 : goal.returns-then-kind_at-eq9
returns-then-kind_at-eq9 c = noted_more _ c.args.table.now _ _ c.requires.told (sym c.kind_at.ensures ∙ c.if-kind_at-eq9.true) c.b_at-x.ensures (rw c.b_at-x.ensures (c.requires.narrow (sym c.kind_at.ensures ∙ c.if-kind_at-eq9.true)))

pub returns-else-kind_at-eq9 : goal.returns-else-kind_at-eq9
returns-else-kind_at-eq9 c = noted_other _ c.args.table.now _ c.requires.told (λ e. c.if-kind_at-eq9.false (c.kind_at.ensures ∙ e))
