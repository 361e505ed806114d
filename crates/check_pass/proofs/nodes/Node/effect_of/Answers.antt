use mathlib.Core.Path.{refl}
use Rattle.check_pass.proofs.nodes.Node.effect_of.Goals as goal

pub returns : goal.returns
returns c = record { stored = refl; judged = λ l. c.args.self.now.at.filled.at _ l }
