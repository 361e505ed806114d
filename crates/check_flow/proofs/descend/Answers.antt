use mathlib.Core.Path.{refl, sym, ap, ◌∙◌}
use mathlib.Core.Logic.{inl, inr}
use native.Mathlib.Omega.{arith}
use Rattle.records.specs.Search.{or_else}
use Rattle.spec_language.specs.Scopes.{uses_variable}
use Rattle.spec_language.specs.Known.{names_variable}
use Rattle.spec_language.proofs.KnownNodes.{named}
use Rattle.check_summary.proofs.Filling.{after_child}
use Rattle.check_flow.proofs.Descending.{seq_lacks, assign_lacks, decl_lacks, if_lacks, while_lacks, expression_lacks, rest_lacks}
use Rattle.check_flow.proofs.descend.Goals as goal

pub remove-inside-requires : goal.remove-inside-requires
unfolding names_variable uses_variable
remove-inside-requires c = rw c.b_at.ensures (named 9 c.requires.0.nodes c.requires.2 (sym c.kind_at-kind.ensures ∙ c.in-9.is) refl)

pub returns-in-7-clause-finds : goal.returns-in-7-clause-finds
returns-in-7-clause-finds c = seq_lacks c.requires.0 c.requires.2 _ c.requires.1 (sym c.kind_at-kind.ensures ∙ c.in-7.is) c.prior-a.ensures c.row_through-first.ensures (c.into_either.ensures.finds _)

pub returns-in-7-clause-falls : goal.returns-in-7-clause-falls
returns-in-7-clause-falls c = c.into_either.ensures.falls _ (grind (arith, after_child)) (grind (arith, after_child))

pub returns-in-8-clause-finds : goal.returns-in-8-clause-finds
returns-in-8-clause-finds c = assign_lacks c.requires.0 c.requires.2 _ (sym c.kind_at-kind.ensures ∙ c.in-8.is) c.first_missing.ensures

pub returns-in-9-clause-finds : goal.returns-in-9-clause-finds
returns-in-9-clause-finds c = decl_lacks c.requires.0 c.requires.2 _ (sym c.kind_at-kind.ensures ∙ c.in-9.is) c.b_at.ensures c.remove-inside.ensures refl

pub returns-in-10-clause-finds : goal.returns-in-10-clause-finds
returns-in-10-clause-finds c = if_lacks c.requires.0 c.requires.2 _ c.requires.1 (sym c.kind_at-kind.ensures ∙ c.in-10.is) c.prior-a-in-10.ensures c.prior.ensures c.row_through-first-in-10.ensures c.first_missing-lacking.ensures (c.after_condition.ensures.finds _ ∙ ap (or_else _) (c.into_either-in-10.ensures.finds _))

pub returns-in-10-clause-falls : goal.returns-in-10-clause-falls
returns-in-10-clause-falls c = c.after_condition.ensures.falls _ (c.into_either-in-10.ensures.falls _ (grind (arith, after_child)) (grind (arith, after_child)))

pub returns-in-11-clause-finds : goal.returns-in-11-clause-finds
returns-in-11-clause-finds c = while_lacks c.requires.0 c.requires.2 _ (sym c.kind_at-kind.ensures ∙ c.in-11.is) c.prior-in-11.ensures c.first_missing-lacking-in-11.ensures (c.after_condition-in-11.ensures.finds _)

pub returns-in-12-to-14-clause-finds : goal.returns-in-12-to-14-clause-finds
returns-in-12-to-14-clause-finds c = expression_lacks c.requires.0 c.requires.2 _ _ (sym c.kind_at-kind.ensures) (omega arith) (omega arith) c.first_missing-in-12-to-14.ensures

pub returns-in_default-clause-finds : goal.returns-in_default-clause-finds
returns-in_default-clause-finds c = rest_lacks c.requires.0 c.requires.2 _ _ (sym c.kind_at-kind.ensures) (inl (omega arith)) refl

pub returns-in_default-2-clause-finds : goal.returns-in_default-2-clause-finds
returns-in_default-2-clause-finds c = rest_lacks c.requires.0 c.requires.2 _ _ (sym c.kind_at-kind.ensures) (inr (omega arith)) refl
