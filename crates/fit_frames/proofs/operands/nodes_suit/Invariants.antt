use mathlib.Core.Path.{◌≡◌}
use Prim.Native.Nat.{◌+◌, ◌*◌, ◌-◌}
use lib.ListN.{drop}
use Rattle.varset.specs.Sets.{has}
use Rattle.spec_machine.specs.File.{program_of}
use Rattle.spec_image.specs.Decode.{nodes_of}
use Rattle.spec_language.specs.Types.{mask_type}
use Rattle.fit_frames.specs.Operands.{nodes_suit}
use Rattle.fit_frames.specs.Slots.{slots_in}
use Rattle.fit_frames.proofs.operands.nodes_suit.Given as goal

abbrev pub invariant-loop-j : goal.invariant-loop-j
invariant-loop-j l = nodes_suit (program_of l.known.part.file.now) l.known.part.function (has l.set.0) (mask_type l.masks.bools l.masks.arrays l.masks.grids) (l.y + 1) (nodes_of (l.end - l.y) (drop (2 * l.y) (slots_in l.frame.memory.now l.frame.place))) ≡ nodes_suit (program_of l.known.part.file.now) l.known.part.function (has l.set.0) (mask_type l.masks.bools l.masks.arrays l.masks.grids) (l.j + 1) (nodes_of (l.end - l.j) (drop (2 * l.j) (slots_in l.frame.memory.now l.frame.place)))
