use mathlib.Core.Path.{◌∙◌}
use Rattle.fit_nodes.proofs.Refs.{nop_is, node_is, if_is, seq_is}
use Rattle.fit_nodes.proofs.Part.is_statement.Goals as goal

pub returns-in-Nop : goal.returns-in-Nop
returns-in-Nop c = nop_is c.args.self.now.known c.in-Nop.is

pub returns-in-Node : goal.returns-in-Node
returns-in-Node c = c.is_statement_node.ensures ∙ node_is c.args.self.now.known c.in-Node.is

pub returns-in-IfOf : goal.returns-in-IfOf
returns-in-IfOf c = c.is_while.ensures ∙ if_is c.args.self.now.known c.in-IfOf.is

pub returns-in-SeqOf : goal.returns-in-SeqOf
returns-in-SeqOf c = c.is_while-in-SeqOf.ensures ∙ seq_is c.args.self.now.known c.in-SeqOf.is
