use mathlib.Core.Path.{refl, ◌∙◌}
use native.Mathlib.Omega.{arith}
use Rattle.state_words.specs.Meaning.{frame_at}
use Rattle.spec_image.proofs.Frames.{push_frame}
use Rattle.state_stack.proofs.push.Goals as goal

pub returns : goal.returns
unfolding frame_at
returns c f η fr K A R e few n w = c.put_frame.ensures
    ∙ rw e (push_frame f η K A R _ _ few n refl fr _ c.requires.1 (omega arith) w)
