use mathlib.Core.Path.{◌∙◌}
use Rattle.state_words.specs.Meaning.{activation_at}
use Rattle.spec_image.proofs.Heads as heads
use native.Mathlib.Omega.{arith}
use Rattle.state_stack.proofs.head.clear_head.Goals as goal

pub returns : goal.returns
unfolding activation_at
returns c t α f η K A R e a = c.put_frame_count.ensures ∙ rw e (heads.clear_head t α f η K A R _ _ a (omega arith))
