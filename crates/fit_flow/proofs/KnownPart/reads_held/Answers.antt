use Rattle.check_summary.proofs.Passing.{held_is}
use Rattle.fit_flow.proofs.Looking.{row_room, expression_row}
use Rattle.fit_nodes.proofs.Sorts.{expression_inside}
use Rattle.spec_machine.specs.File.{program_of}
use mathlib.Core.Path.{◌∙◌}
use Rattle.fit_flow.proofs.KnownPart.reads_held.Goals as goal

pub needs_at-requires : goal.needs_at-requires
needs_at-requires c = row_room c.args.self.now.part.known c.args.self.now.summed (expression_inside c.args.self.now.part.known _ c.requires)

pub returns : goal.returns
unfolding program_of
returns c = let n = rw (← c.needs_at.ensures) at (expression_row c.args.self.now.part.known c.args.self.now.summed _ c.requires) in
    held_is _ n c.is_within.ensures ∙ rw c.args.self.now.part.known.part
