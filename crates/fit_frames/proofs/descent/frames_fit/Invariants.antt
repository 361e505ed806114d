use mathlib.Core.Path.{◌≡◌}
use Prim.Native.Nat.{◌+◌, ◌*◌}
use Rattle.words.specs.Stacks.{entries, chain}
use Rattle.spec_machine.specs.File.{program_of}
use Rattle.spec_image.specs.Decode.{frame_of}
use Rattle.fit_frames.specs.Incoming.{frame_fits, hands_on, ends}
use Rattle.fit_frames.specs.Meaning.{incoming_is}
use Rattle.fit_frames.proofs.descent.frames_fit.Given as goal

abbrev pub invariant-loop-i : goal.invariant-loop-i
invariant-loop-i l = chain (frame_fits (program_of l.known.part.file.now) l.known.part.function) (hands_on (program_of l.known.part.file.now) l.known.part.function) ends (incoming_is l.initial.down) (entries 20 frame_of l.memory (4480 + l.low * 20) l.k) ≡ chain (frame_fits (program_of l.known.part.file.now) l.known.part.function) (hands_on (program_of l.known.part.file.now) l.known.part.function) ends (incoming_is l.down) (entries 20 frame_of l.memory (4480 + l.low * 20) l.i)
