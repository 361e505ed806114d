use Rattle.check_summary.specs.Tables.{word_of, fails_in, returns_in}
use mathlib.Core.Path.{refl}
use Rattle.check_summary.proofs.row_at.Goals as goal

pub returns : goal.returns
unfolding word_of fails_in returns_in
returns c = record { flags = (refl, refl); sets = (refl, refl, refl, refl) }
