use mathlib.Core.Path.{sym, ◌∙◌}
use Rattle.check_pass.proofs.ByKind.{int_leaf, bool_leaf, nop_leaf, nothing_leaf}
use Rattle.check_pass.proofs.nodes.Node.alone_at.Goals as goal

pub leaf_at-requires : goal.leaf_at-requires
leaf_at-requires c = (int_leaf _ _ _ _ _ (sym c.kind_at-kind.ensures ∙ c.in-0.is))

pub leaf_at-requires-in-1 : goal.leaf_at-requires-in-1
leaf_at-requires-in-1 c = (bool_leaf _ _ _ _ _ (sym c.kind_at-kind.ensures ∙ c.in-1.is))

pub leaf_at-requires-in-6 : goal.leaf_at-requires-in-6
leaf_at-requires-in-6 c = (nop_leaf _ _ _ _ _ (sym c.kind_at-kind.ensures ∙ c.in-6.is))

pub leaf_at-requires-in-15 : goal.leaf_at-requires-in-15
leaf_at-requires-in-15 c = (nothing_leaf _ _ _ _ _ (sym c.kind_at-kind.ensures ∙ c.in-15.is))
