use mathlib.Core.Path.{refl, ◌∙◌}
use Rattle.spec_image.proofs.Calls as calls
use Rattle.state_stack.proofs.activations.enter_none.Goals as goal

pub returns : goal.returns
returns c f η K A R e n k few = c.open.ensures ∙ rw e (calls.enter_none f η K A R _ _ _ n refl refl _ _ _ k c.requires.1 few)
