use mathlib.Core.Path.{sym, ◌∙◌}
use Rattle.varset.specs.Sets.{has}
use Rattle.spec_machine.specs.File.{program_of}
use Rattle.spec_language.specs.Types.{mask_type}
use Rattle.fit_frames.proofs.FrameSlots.{nodes_more, nodes_less, nodes_end}
use Rattle.fit_frames.proofs.operands.nodes_suit.Goals as goal

pub returns-then-not-node_suits : goal.returns-then-not-node_suits
returns-then-not-node_suits c = let l = c.loop-j in let a = c.args in sym (l.invariant ∙ nodes_less (program_of a.known.now.part.file.now) a.known.now.part.function (has a.set.0) a.frame.now.memory.now a.frame.now.place a.end l.j (mask_type a.masks.bools a.masks.arrays a.masks.grids) c.loop-j-test.true c.requires.1 (rw (c.wanted.ensures, c.word.ensures) at (sym c.if-not-node_suits.ensures)))

pub loop-j-preserved : goal.loop-j-preserved
loop-j-preserved c = let l = c.loop-j in let a = c.args in l.invariant ∙ nodes_more (program_of a.known.now.part.file.now) a.known.now.part.function (has a.set.0) a.frame.now.memory.now a.frame.now.place a.end l.j (mask_type a.masks.bools a.masks.arrays a.masks.grids) c.loop-j-test.true c.requires.1 (rw (c.wanted.ensures, c.word.ensures) at (sym c.if-not-node_suits.ensures))

pub returns : goal.returns
returns c = let l = c.loop-j in let a = c.args in sym (l.invariant ∙ nodes_end (program_of a.known.now.part.file.now) a.known.now.part.function (has a.set.0) a.frame.now.memory.now a.frame.now.place a.end l.j (mask_type a.masks.bools a.masks.arrays a.masks.grids) c.loop-j-test.false)
