use mathlib.Core.Path.{sym, ◌∙◌}
use native.Mathlib.Omega.{arith}
use Rattle.varset.specs.Sets.{has}
use Rattle.spec_machine.specs.File.{program_of}
use Rattle.spec_language.specs.Types.{mask_type}
use Rattle.fit_frames.specs.Slots.{slots_in}
use Rattle.fit_frames.proofs.Counts.{gather_count, gather_values, gather_middle, gather_nodes}
use Rattle.fit_frames.proofs.operands.gathers.Goals as goal

pub returns-then-y-gt7 : goal.returns-then-y-gt7
returns-then-y-gt7 c = let a = c.args in rw (← c.word-y.ensures, ← c.word-z.ensures) (sym (gather_count (program_of a.known.now.part.file.now) a.known.now.part.function (has a.set.0) (mask_type a.masks.bools a.masks.arrays a.masks.grids) a.count a.kind (slots_in a.frame.now.memory.now a.frame.now.place) c.word-y.result c.word-z.result (λ e. omega (arith, e, c.if-y-gt7.true, c.requires))))

pub returns-then-z-gt7 : goal.returns-then-z-gt7
returns-then-z-gt7 c = let a = c.args in rw (← c.word-y.ensures, ← c.word-z.ensures) (sym (gather_count (program_of a.known.now.part.file.now) a.known.now.part.function (has a.set.0) (mask_type a.masks.bools a.masks.arrays a.masks.grids) a.count a.kind (slots_in a.frame.now.memory.now a.frame.now.place) c.word-y.result c.word-z.result (λ e. omega (arith, e, c.if-z-gt7.true, c.requires))))

pub returns-then-y-z : goal.returns-then-y-z
returns-then-y-z c = let a = c.args in rw (← c.word-y.ensures, ← c.word-z.ensures) (sym (gather_count (program_of a.known.now.part.file.now) a.known.now.part.function (has a.set.0) (mask_type a.masks.bools a.masks.arrays a.masks.grids) a.count a.kind (slots_in a.frame.now.memory.now a.frame.now.place) c.word-y.result c.word-z.result c.if-y-z.true))

pub returns-then-not-values_suit : goal.returns-then-not-values_suit
returns-then-not-values_suit c = let a = c.args in rw (← c.word-y.ensures, ← c.word-z.ensures) (sym (gather_values (program_of a.known.now.part.file.now) a.known.now.part.function (has a.set.0) (mask_type a.masks.bools a.masks.arrays a.masks.grids) a.count a.kind (slots_in a.frame.now.memory.now a.frame.now.place) c.word-y.result c.word-z.result c.if-y-z.false (sym c.if-not-values_suit.ensures)))

pub returns-then-wanted-kind : goal.returns-then-wanted-kind
returns-then-wanted-kind c = let a = c.args in rw (← c.word-y.ensures, ← c.word-z.ensures) (sym (gather_middle (program_of a.known.now.part.file.now) a.known.now.part.function (has a.set.0) (mask_type a.masks.bools a.masks.arrays a.masks.grids) a.count a.kind (slots_in a.frame.now.memory.now a.frame.now.place) c.word-y.result c.word-z.result c.if-y-z.false (sym c.if-not-values_suit.ensures) (λ e. c.if-wanted-kind.true (c.wanted.ensures ∙ e))))

pub returns : goal.returns
returns c = let a = c.args in rw (← c.word-y.ensures, ← c.word-z.ensures) (c.nodes_suit.ensures ∙ sym (gather_nodes (program_of a.known.now.part.file.now) a.known.now.part.function (has a.set.0) (mask_type a.masks.bools a.masks.arrays a.masks.grids) a.count a.kind (slots_in a.frame.now.memory.now a.frame.now.place) c.word-y.result c.word-z.result c.if-y-z.false (sym c.if-not-values_suit.ensures) (sym c.wanted.ensures ∙ c.if-wanted-kind.false)))
