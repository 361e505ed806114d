use mathlib.Core.Path.{refl, ◌∙◌}
use Rattle.state_words.specs.Meaning.{activation_at}
use Rattle.spec_image.proofs.Calls as calls
use Rattle.state_stack.proofs.head.enter_main.Goals as goal

pub returns : goal.returns
unfolding activation_at
returns c z R e all few = c.put_activation.ensures ∙ rw e (calls.enter_main R z _ _ _ all refl few)
