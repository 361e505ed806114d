use Rattle.spec_language.specs.KindLists.{statements}
use Rattle.spec_language.proofs.KindLists.{none_of}
use Rattle.check_summary.proofs.Arms.{seq_arm, decl_arm, if_arm, while_arm, assign_arm, return_arm, assert_arm, expr_arm, nop_arm}
use mathlib.Core.Path.{sym, ◌∙◌}
use Rattle.check_summary.proofs.statement_row.Goals as goal

pub returns-in-7 : goal.returns-in-7
returns-in-7 c = seq_arm c.requires.part.0 c.requires.part.1 _ c.requires.table.0 _ (sym c.kind_at-kind.ensures ∙ c.in-7.is) c.prior-first.ensures (c.row_at-before.ensures.flags, c.row_at-before.ensures.sets) (c.row_at-after.ensures.flags, c.row_at-after.ensures.sets) c.in_sequence.ensures

pub returns-in-8 : goal.returns-in-8
returns-in-8 c = assign_arm c.requires.part.0 c.requires.part.1 _ c.requires.table.0 _ c.needs_at-needs.ensures (sym c.kind_at-kind.ensures ∙ c.in-8.is) c.b_at.ensures (rw c.empty.ensures at c.insert-adds.ensures) (c.plain.ensures.kept, c.plain.ensures.empty)

pub returns-in-9 : goal.returns-in-9
returns-in-9 c = decl_arm c.requires.part.0 c.requires.part.1 _ c.requires.table.0 _ (sym c.kind_at-kind.ensures ∙ c.in-9.is) c.b_at-in-9.ensures (c.row_at-inner.ensures.flags, c.row_at-inner.ensures.sets) c.in_scope.ensures

pub returns-in-10 : goal.returns-in-10
returns-in-10 c = if_arm c.requires.part.0 c.requires.part.1 _ c.requires.table.0 _ (sym c.kind_at-kind.ensures ∙ c.in-10.is) c.prior-first-in-10.ensures c.prior.ensures c.needs_at-condition.ensures (c.row_at-before-in-10.ensures.flags, c.row_at-before-in-10.ensures.sets) (c.row_at-after-in-10.ensures.flags, c.row_at-after-in-10.ensures.sets) c.in_branches.ensures

pub returns-in-11 : goal.returns-in-11
returns-in-11 c = while_arm c.requires.part.0 c.requires.part.1 _ c.requires.table.0 _ (sym c.kind_at-kind.ensures ∙ c.in-11.is) c.prior-in-11.ensures c.needs_at-condition-in-11.ensures (c.row_at-body.ensures.flags, c.row_at-body.ensures.sets) c.in_loop.ensures

pub returns-in-12 : goal.returns-in-12
returns-in-12 c = return_arm c.requires.part.0 c.requires.part.1 _ c.requires.table.0 _ c.needs_at-needs-in-12.ensures (sym c.kind_at-kind.ensures ∙ c.in-12.is) c.full-all.ensures (c.plain-in-12.ensures.kept, c.plain-in-12.ensures.empty)

pub returns-in-13 : goal.returns-in-13
returns-in-13 c = assert_arm c.requires.part.0 c.requires.part.1 _ c.requires.table.0 _ c.needs_at-needs-in-13.ensures (sym c.kind_at-kind.ensures ∙ c.in-13.is) c.empty-in-13.ensures (c.plain-in-13.ensures.kept, c.plain-in-13.ensures.empty)

pub returns-in-14 : goal.returns-in-14
returns-in-14 c = expr_arm c.requires.part.0 c.requires.part.1 _ c.requires.table.0 _ c.needs_at-needs-in-14.ensures (sym c.kind_at-kind.ensures ∙ c.in-14.is) c.empty-in-14.ensures (c.plain-in-14.ensures.kept, c.plain-in-14.ensures.empty)

pub returns-in_default : goal.returns-in_default
returns-in_default c = nop_arm c.requires.part.0 c.requires.part.1 _ c.requires.table.0 _ (none_of statements _ (λ e. c.in_default.in_default-own.rest.0.0.0.0.0.0.0.1 (c.kind_at-kind.ensures ∙ e), (λ e. c.in_default.in_default-own.rest.0.0.0.0.0.0.1 (c.kind_at-kind.ensures ∙ e), (λ e. c.in_default.in_default-own.rest.0.0.0.0.0.1 (c.kind_at-kind.ensures ∙ e), (λ e. c.in_default.in_default-own.rest.0.0.0.0.1 (c.kind_at-kind.ensures ∙ e), (λ e. c.in_default.in_default-own.rest.0.0.0.1 (c.kind_at-kind.ensures ∙ e), (λ e. c.in_default.in_default-own.rest.0.0.1 (c.kind_at-kind.ensures ∙ e), (λ e. c.in_default.in_default-own.rest.0.1 (c.kind_at-kind.ensures ∙ e), (λ e. c.in_default.in_default-own.rest.1 (c.kind_at-kind.ensures ∙ e), tt))))))))) c.empty-none.ensures c.empty-none.ensures (c.plain-in_default.ensures.kept, c.plain-in_default.ensures.empty)
