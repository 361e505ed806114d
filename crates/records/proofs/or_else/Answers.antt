use Rattle.std.specs.Prelude.{◌≡◌, Option, Some, None}
use Rattle.std.specs.Option.{option_or}
use Rattle.std.proofs.Common.{refl, ◌∙◌}
use Rattle.records.specs.declared.Found.{Found}
use Rattle.records.specs.Search.{or_else}
use Rattle.records.proofs.or_else.Goals as goal

or_is : (found later : Option Found) → option_or found later ≡ or_else found later
unfolding or_else
or_is (Some found) later = refl
or_is None later = refl

pub returns : goal.returns
returns c = c.or.ensures ∙ or_is c.args.found c.args.later
