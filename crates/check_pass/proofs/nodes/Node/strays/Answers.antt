use mathlib.Core.Path.{refl}
use Rattle.check_types.proofs.TypeTables.{laid_at}
use Rattle.check_pass.proofs.Kids.{named_variable}
use Rattle.check_pass.proofs.nodes.Node.strays.Goals as goal

pub strays-requires : goal.strays-requires
strays-requires c = record { laid = (laid_at _ _ _ c.args.self.now.at.part.laid c.args.self.now.at.part.function refl).0; inside = (c.args.self.now.at.part.inside, c.args.self.now.at.below); uses = (c.requires, named_variable _ _ _ c.args.self.now.at.part.named c.args.self.now.at.below c.requires); told = c.args.self.now.at.part.told }
