use mathlib.Core.Path.{refl, ◌∙◌}
use Rattle.state_words.specs.Meaning.{frame_at}
use Rattle.spec_image.proofs.Frames.{pop_frame}
use Rattle.state_stack.proofs.pop.Goals as goal

pub returns : goal.returns
unfolding frame_at
returns c f η fr K A R e few n = c.drop_frames.ensures ∙ rw e (pop_frame f η K A R _ _ few n refl fr c.requires.1)
