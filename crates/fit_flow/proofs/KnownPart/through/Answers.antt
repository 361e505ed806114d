use Rattle.fit_flow.proofs.Looking.{row_room, statement_row}
use Rattle.fit_nodes.proofs.Refs.{node_is, node_within, if-within, seq_within}
use Rattle.fit_flow.proofs.Refs.{nop_flows, node_flows, if_flows, seq_flows}
use mathlib.Core.Path.{◌∙◌}
use Rattle.fit_flow.proofs.KnownPart.through.Goals as goal

pub row_through-requires : goal.row_through-requires
row_through-requires c = row_room c.args.self.now.part.known c.args.self.now.summed (node_within c.args.self.now.part.known c.in-Node.is c.requires)

pub if_through-requires : goal.if_through-requires
if_through-requires c = let k = if-within c.args.self.now.part.known c.in-IfOf.is c.requires in k

pub seq_through-requires : goal.seq_through-requires
seq_through-requires c = let k = seq_within c.args.self.now.part.known c.in-SeqOf.is c.requires in k

pub returns-in-Nop : goal.returns-in-Nop
returns-in-Nop c = nop_flows c.args.self.now.part.known c.in-Nop.is _

pub returns-in-Node : goal.returns-in-Node
returns-in-Node c = let e = c.in-Node.is in
    node_flows c.args.self.now.part.known e (c.row_through.ensures _ (statement_row c.args.self.now.part.known c.args.self.now.summed _ (node_within c.args.self.now.part.known e c.requires) (node_is c.args.self.now.part.known e ∙ c.requires)))

pub returns-in-IfOf : goal.returns-in-IfOf
returns-in-IfOf c = if_flows c.args.self.now.part.known c.in-IfOf.is c.if_through.ensures

pub returns-in-SeqOf : goal.returns-in-SeqOf
returns-in-SeqOf c = seq_flows c.args.self.now.part.known c.in-SeqOf.is c.seq_through.ensures
