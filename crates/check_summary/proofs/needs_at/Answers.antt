use Rattle.check_summary.specs.Tables.{word_of}
use mathlib.Core.Path.{refl}
use Rattle.check_summary.proofs.needs_at.Goals as goal

pub returns : goal.returns
unfolding word_of
returns c = refl
