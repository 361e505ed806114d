use lib.ListN.{drop}
use mathlib.Core.Path.{◌≡◌}
use Prim.Native.Nat.{◌*◌, ◌-◌}
use Rattle.spec_image.specs.Decode.{values_of}
use Rattle.spec_language.specs.Types.{mask_type}
use Rattle.fit_frames.specs.Operands.{values_suit}
use Rattle.fit_frames.specs.Slots.{slots_in}
use Rattle.fit_frames.proofs.operands.values_suit.Given as goal

abbrev pub invariant-loop-k : goal.invariant-loop-k
invariant-loop-k l = values_suit (mask_type l.masks.bools l.masks.arrays l.masks.grids) 0 (values_of l.y (slots_in l.frame.memory.now l.frame.place)) ≡ values_suit (mask_type l.masks.bools l.masks.arrays l.masks.grids) l.k (values_of (l.y - l.k) (drop (2 * l.k) (slots_in l.frame.memory.now l.frame.place)))
