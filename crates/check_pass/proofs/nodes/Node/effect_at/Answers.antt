use Rattle.check_pass.proofs.ByKind.{number_operator, and_operator, return_single, assert_single, expr_single}
use mathlib.Core.Path.{sym, ◌∙◌}
use Rattle.check_pass.proofs.nodes.Node.effect_at.Goals as goal

pub operator_at-requires : goal.operator_at-requires
operator_at-requires c = (number_operator _ _ _ _ _ (sym c.kind_at-kind.ensures ∙ c.in-3.is) c.a_at.ensures c.operator_type.ensures)

pub operator_at-requires-in-4 : goal.operator_at-requires-in-4
operator_at-requires-in-4 c = (and_operator _ _ _ _ _ (sym c.kind_at-kind.ensures ∙ c.in-4.is))

pub call_at-requires : goal.call_at-requires
call_at-requires c = ((sym c.kind_at-kind.ensures ∙ c.in-5.is))

pub sequence_at-requires : goal.sequence_at-requires
sequence_at-requires c = ((sym c.kind_at-kind.ensures ∙ c.in-7.is))

pub assign_at-requires : goal.assign_at-requires
assign_at-requires c = ((sym c.kind_at-kind.ensures ∙ c.in-8.is))

pub scope_at-requires : goal.scope_at-requires
scope_at-requires c = ((sym c.kind_at-kind.ensures ∙ c.in-9.is))

pub branches_at-requires : goal.branches_at-requires
branches_at-requires c = ((sym c.kind_at-kind.ensures ∙ c.in-10.is))

pub loop_at-requires : goal.loop_at-requires
loop_at-requires c = ((sym c.kind_at-kind.ensures ∙ c.in-11.is))

pub single_at-requires : goal.single_at-requires
single_at-requires c = (return_single _ _ _ _ _ (sym c.kind_at-kind.ensures ∙ c.in-12.is) c.result_of.ensures)

pub single_at-requires-in-13 : goal.single_at-requires-in-13
single_at-requires-in-13 c = (assert_single _ _ _ _ _ (sym c.kind_at-kind.ensures ∙ c.in-13.is))

pub single_at-requires-in-14 : goal.single_at-requires-in-14
single_at-requires-in-14 c = (expr_single _ _ _ _ _ (sym c.kind_at-kind.ensures ∙ c.in-14.is))
