use Rattle.check_summary.proofs.Passing.{held_is}
use Rattle.fit_flow.proofs.Looking.{row_room, condition_row}
use Rattle.fit_flow.proofs.Trees.{loop_if}
use Rattle.fit_nodes.proofs.AcceptedParts.{inside, loop-above}
use native.Mathlib.Omega.{arith}
use mathlib.Core.Path.{refl}
use Rattle.fit_flow.proofs.KnownPart.if_through.Goals as goal

pub overflow_sub-w : goal.overflow_sub-w
overflow_sub-w c = loop-above c.args.self.now.part.known (c.requires.0, c.requires.1)

pub prior-requires : goal.prior-requires
prior-requires c = omega (arith, inside c.args.self.now.part.known, c.requires.0)

pub needs_at-requires : goal.needs_at-requires
needs_at-requires c = row_room c.args.self.now.part.known c.args.self.now.summed (omega (arith, c.prior.ensures, c.requires.0))

pub returns : goal.returns
returns c = let q = c.prior.ensures in
    let n = rw (← c.needs_at.ensures) at (condition_row c.args.self.now.part.known c.args.self.now.summed c.requires.0 c.requires.1 q) in
    loop_if _ _ c.requires.1 (loop-above c.args.self.now.part.known (c.requires.0, c.requires.1)) q (held_is _ n c.is_within-held.ensures) c.seq_through-entered.ensures refl c.meet.ensures
