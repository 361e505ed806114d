use mathlib.Core.Path.{refl, ◌∙◌}
use Rattle.state_words.specs.Meaning.{activation_at}
use Rattle.spec_image.proofs.Calls.{caller_count}
use Rattle.state_stack.proofs.activations.caller_frames.Goals as goal

pub returns : goal.returns
unfolding activation_at
returns c f η J g θ L A R e a = c.activation_word.ensures ∙ rw e (caller_count f η J R g θ L A _ _ a refl)
