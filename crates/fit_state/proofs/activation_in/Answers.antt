use Prim.Native.Nat.{◌+◌, ◌*◌}
use mathlib.Core.Path.{◌∙◌}
use Rattle.words.specs.Stacks.{entries}
use Rattle.spec_image.specs.Decode.{frame_of}
use Rattle.fit_state.specs.Meaning.{over_is}
use Rattle.fit_state.proofs.Lists.{in_variables, in_over, in_frames}
use Rattle.fit_state.proofs.activation_in.Goals as goal

pub returns-in_default : goal.returns-in_default
returns-in_default c = let a = c.args.activation.now in in_variables (over_is c.args.over) (entries 20 frame_of a.memory.now (4480 + a.low * 20) a.frames) c.in_default.ensures

pub returns-in_default-over_frames : goal.returns-in_default-over_frames
returns-in_default-over_frames c = let a = c.args.activation.now in in_over (over_is c.args.over) (entries 20 frame_of a.memory.now (4480 + a.low * 20) a.frames) c.in-Some.ensures c.in_default-over_frames.ensures

pub returns : goal.returns
returns c = let a = c.args.activation.now in c.frames_fit.ensures ∙ in_frames (over_is c.args.over) (entries 20 frame_of a.memory.now (4480 + a.low * 20) a.frames) c.in-Some.ensures c.in-Some-over_frames.ensures
