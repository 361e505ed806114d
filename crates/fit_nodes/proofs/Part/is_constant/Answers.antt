use mathlib.Core.Path.{◌∙◌}
use native.Mathlib.Omega.{arith}
use Rattle.fit_nodes.proofs.AcceptedParts.{inside}
use Rattle.fit_nodes.proofs.Sorts.{expression_inside, own_constant}
use Rattle.fit_nodes.proofs.Part.is_constant.Goals as goal

pub kind_at-requires : goal.kind_at-requires
kind_at-requires c = omega (arith, inside c.args.self.now.known, expression_inside c.args.self.now.known _ c.requires)

pub is_constant_kind-requires : goal.is_constant_kind-requires
is_constant_kind-requires c = tt

pub returns : goal.returns
returns c = c.is_constant_kind.ensures ∙ own_constant c.args.self.now.known _ c.kind_at.ensures
