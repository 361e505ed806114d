use mathlib.Core.Path.{refl, ◌∙◌}
use Rattle.state_words.specs.Meaning.{variable_at}
use Rattle.spec_image.proofs.Variables.{store_variable}
use Rattle.state_stack.proofs.set_variable.Goals as goal

pub returns : goal.returns
unfolding variable_at
returns c f η K A R e n declared few = c.put_variable.ensures ∙ rw e (store_variable f η K A R _ _ n refl _ _ declared few refl _)
