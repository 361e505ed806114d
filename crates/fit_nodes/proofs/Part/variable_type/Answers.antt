use mathlib.Core.Path.{◌∙◌}
use Rattle.fit_nodes.proofs.AcceptedParts.{variable_asks}
use Rattle.fit_nodes.proofs.Sorts.{variable_type}
use Rattle.fit_nodes.proofs.Part.variable_type.Goals as goal

pub var_type-requires : goal.var_type-requires
var_type-requires c = let a = variable_asks c.args.self.now.known c.requires.1 in record { laid = a.0; inside = a.1; told = c.requires.0 }

pub returns : goal.returns
returns c = c.var_type.ensures ∙ variable_type c.args.self.now.known c.requires.1
