use lib.ListN.{get_or, drop}
use mathlib.Core.Path.{sym, ◌∙◌}
use Prim.Native.Nat.{◌*◌}
use Rattle.spec_language.specs.Types.{mask_type}
use Rattle.fit_frames.specs.Slots.{slots_in}
use Rattle.fit_frames.proofs.FrameSlots.{values_more, values_less, values_end, values_all}
use Rattle.fit_frames.proofs.operands.values_suit.Goals as goal

pub loop-k-init : goal.loop-k-init
loop-k-init c = let a = c.args in values_all a.frame.now.memory.now a.frame.now.place a.y (mask_type a.masks.bools a.masks.arrays a.masks.grids)

pub returns-then-wanted-tag_type : goal.returns-then-wanted-tag_type
returns-then-wanted-tag_type c = let l = c.loop-k in let a = c.args in sym (l.invariant ∙ values_less a.frame.now.memory.now a.frame.now.place a.y l.k (mask_type a.masks.bools a.masks.arrays a.masks.grids) c.loop-k-test.true c.requires c.tag_type.result (rw c.word.ensures at (c.tag_type.ensures (get_or (drop (2 * l.k) (slots_in a.frame.now.memory.now a.frame.now.place)) 1 0))) (λ e. c.if-wanted-tag_type.true (c.wanted.ensures ∙ e)))

pub loop-k-preserved : goal.loop-k-preserved
loop-k-preserved c = let l = c.loop-k in let a = c.args in l.invariant ∙ values_more a.frame.now.memory.now a.frame.now.place a.y l.k (mask_type a.masks.bools a.masks.arrays a.masks.grids) c.loop-k-test.true c.requires c.tag_type.result (rw c.word.ensures at (c.tag_type.ensures (get_or (drop (2 * l.k) (slots_in a.frame.now.memory.now a.frame.now.place)) 1 0))) (sym c.wanted.ensures ∙ c.if-wanted-tag_type.false)

pub returns : goal.returns
returns c = let l = c.loop-k in let a = c.args in sym (l.invariant ∙ values_end a.frame.now.memory.now a.frame.now.place a.y l.k (mask_type a.masks.bools a.masks.arrays a.masks.grids) c.loop-k-test.false)
