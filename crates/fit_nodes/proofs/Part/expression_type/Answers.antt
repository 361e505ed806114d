use mathlib.Core.Path.{◌∙◌}
use Rattle.fit_nodes.proofs.AcceptedParts.{laid, inside, nodes, calls}
use Rattle.fit_nodes.proofs.Sorts.{expression_inside, own_type}
use Rattle.fit_nodes.proofs.Part.expression_type.Goals as goal

pub type_of-requires : goal.type_of-requires
type_of-requires c = let p = c.args.self.now.known in record { laid = (laid p, p.known); inside = (inside p, expression_inside p _ c.requires.1); known = (nodes p, calls p); told = c.requires.0 }

pub returns : goal.returns
returns c = c.type_of.ensures ∙ own_type c.args.self.now.known _ c.requires.1
