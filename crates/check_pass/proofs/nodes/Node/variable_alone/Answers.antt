use mathlib.Core.Path.{◌∙◌}
use Rattle.check_pass.proofs.Kids.{named_variable}
use Rattle.check_pass.proofs.nodes.Node.variable_alone.Goals as goal

pub insert-requires : goal.insert-requires
insert-requires c = rw c.b_at.ensures (named_variable _ _ _ c.args.self.now.at.part.named c.args.self.now.at.below c.requires)

pub returns : goal.returns
returns c = c.insert.ensures ∙ rw (c.empty.ensures, c.b_at.ensures)
