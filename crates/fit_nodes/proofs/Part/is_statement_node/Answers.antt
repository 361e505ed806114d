use native.Mathlib.Omega.{arith}
use borrow.Author.Tests.{le-ltb, lt-ltb}
use Rattle.fit_nodes.proofs.AcceptedParts.{inside}
use Rattle.fit_nodes.proofs.Part.is_statement_node.Goals as goal

pub returns-then-self-at : goal.returns-then-self-at
returns-then-self-at c = rw (le-ltb _ _ c.if-self-at.true)

pub returns : goal.returns
returns c = rw (lt-ltb _ _ c.if-self-at.false, c.is_statement_kind.ensures, c.kind_at.ensures)

pub kind_at-requires : goal.kind_at-requires
kind_at-requires c = omega (arith, inside c.args.self.now.known)
