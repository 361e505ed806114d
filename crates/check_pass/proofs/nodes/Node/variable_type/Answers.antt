use mathlib.Core.Path.{refl}
use native.Mathlib.Omega.{arith}
use Rattle.check_types.proofs.TypeTables.{laid_at}
use Rattle.check_pass.proofs.Kids.{named_variable}
use Rattle.check_pass.proofs.nodes.Node.variable_type.Goals as goal

pub var_type-requires : goal.var_type-requires
var_type-requires c = record { laid = laid_at _ _ _ c.args.self.now.at.part.laid c.args.self.now.at.part.function refl; inside = (c.args.self.now.at.part.inside, omega (arith, c.args.self.now.at.below), rw c.b_at-x.ensures (named_variable _ _ _ c.args.self.now.at.part.named c.args.self.now.at.below c.requires)); told = c.args.self.now.at.part.told }

pub returns : goal.returns
returns c = rw (← c.b_at-x.ensures) c.var_type.ensures
