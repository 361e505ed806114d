use mathlib.Core.Path.{refl, ◌∙◌}
use Rattle.state_words.specs.Meaning.{variable_at}
use Rattle.spec_image.proofs.Variables.{variable_back}
use Rattle.state_stack.proofs.variable.Goals as goal

pub returns : goal.returns
unfolding variable_at
returns c f η K A R e n declared few = c.variable.ensures ∙ rw e (variable_back f η K A R _ _ n refl _ _ declared few refl)
