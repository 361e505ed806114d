use mathlib.Core.Path.{sym, ◌∙◌}
use native.Mathlib.Omega.{arith}
use Rattle.words.proofs.Blocks.{zeroed}
use Rattle.run_rules.proofs.calling.clear.Goals as goal

pub returns : goal.returns
returns c z w = c.zero_at.ensures ∙ rw (c.requires.0 ∙ sym w) (zeroed _ z (omega arith))
