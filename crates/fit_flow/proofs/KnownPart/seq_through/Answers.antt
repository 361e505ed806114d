use Rattle.fit_flow.proofs.Looking.{row_room, while_row, body_row}
use Rattle.fit_flow.proofs.Trees.{loop_seq}
use Rattle.fit_nodes.proofs.AcceptedParts.{loop-above}
use native.Mathlib.Omega.{arith}
use mathlib.Core.Path.{refl}
use Rattle.fit_flow.proofs.KnownPart.seq_through.Goals as goal

pub overflow_sub-w : goal.overflow_sub-w
overflow_sub-w c = loop-above c.args.self.now.part.known (c.requires.0, c.requires.1)

pub row_through-body-requires : goal.row_through-body-requires
row_through-body-requires c = row_room c.args.self.now.part.known c.args.self.now.summed (omega (arith, c.requires.0))

pub row_through-again-requires : goal.row_through-again-requires
row_through-again-requires c = row_room c.args.self.now.part.known c.args.self.now.summed c.requires.0

pub returns : goal.returns
returns c = loop_seq _ _ c.requires.1 (loop-above c.args.self.now.part.known (c.requires.0, c.requires.1)) (c.row_through-body.ensures _ (body_row c.args.self.now.part.known c.args.self.now.summed c.requires.0 c.requires.1)) (c.row_through-again.ensures _ (while_row c.args.self.now.part.known c.args.self.now.summed c.requires.0 c.requires.1)) refl refl
