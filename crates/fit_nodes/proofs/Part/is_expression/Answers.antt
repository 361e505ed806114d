use native.Mathlib.Omega.{arith}
use Rattle.fit_nodes.proofs.AcceptedParts.{inside}
use Rattle.fit_nodes.proofs.Sorts.{not_own, own_expression}
use Rattle.fit_nodes.proofs.Part.is_expression.Goals as goal

pub kind_at-requires : goal.kind_at-requires
kind_at-requires c = omega (arith, inside c.args.self.now.known)

pub returns-then-at-self : goal.returns-then-at-self
returns-then-at-self c = own_expression c.args.self.now.known _ c.if-at-self.true c.kind_at.ensures c.is_expression.ensures

pub returns-else-at-self : goal.returns-else-at-self
returns-else-at-self c = not_own c.args.self.now.known _ (omega (arith, c.if-at-self.false))
