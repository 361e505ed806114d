use Rattle.check_summary.proofs.Arms.{row_sums}
use Rattle.fit_flow.proofs.Looking.{row_room, statement_row, body_row}
use Rattle.fit_nodes.proofs.Refs.{node_is, node_within, seq_within}
use Rattle.fit_flow.proofs.Refs.{seq_above, nop_returns, node_returns, if_returning, seq_returning}
use native.Mathlib.Omega.{arith}
use mathlib.Core.Path.{sym, ◌∙◌}
use Rattle.fit_flow.proofs.KnownPart.returning.Goals as goal

pub row_at-requires : goal.row_at-requires
row_at-requires c = row_room c.args.self.now.part.known c.args.self.now.summed (node_within c.args.self.now.part.known c.in-Node.is c.requires)

pub overflow_sub-w : goal.overflow_sub-w
overflow_sub-w c = seq_above c.args.self.now.part.known c.in-SeqOf.is c.requires

pub row_at-requires-in-SeqOf : goal.row_at-requires-in-SeqOf
row_at-requires-in-SeqOf c = row_room c.args.self.now.part.known c.args.self.now.summed (omega (arith, (seq_within c.args.self.now.part.known c.in-SeqOf.is c.requires).0))

pub returns-in-Nop : goal.returns-in-Nop
returns-in-Nop c = nop_returns c.args.self.now.part.known c.in-Nop.is

pub returns-in-Node : goal.returns-in-Node
returns-in-Node c = let e = c.in-Node.is in
    sym (row_sums _ _ (c.row_at.ensures.flags, c.row_at.ensures.sets) (statement_row c.args.self.now.part.known c.args.self.now.summed _ (node_within c.args.self.now.part.known e c.requires) (node_is c.args.self.now.part.known e ∙ c.requires))).returning ∙ node_returns c.args.self.now.part.known e

pub returns-in-IfOf : goal.returns-in-IfOf
returns-in-IfOf c = if_returning c.args.self.now.part.known c.in-IfOf.is c.requires

pub returns-in-SeqOf : goal.returns-in-SeqOf
returns-in-SeqOf c = let e = c.in-SeqOf.is in
    let k = seq_within c.args.self.now.part.known e c.requires in
    sym (row_sums _ _ (c.row_at-in-SeqOf.ensures.flags, c.row_at-in-SeqOf.ensures.sets) (body_row c.args.self.now.part.known c.args.self.now.summed k.0 k.1)).returning ∙ seq_returning c.args.self.now.part.known e c.requires
