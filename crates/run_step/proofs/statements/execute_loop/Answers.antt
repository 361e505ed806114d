use mathlib.Core.Path.{refl}
use Rattle.spec_machine.specs.Program.{Ref, node, seq_of}
use Rattle.spec_machine.specs.Machine.{wait, branch}
use Rattle.spec_machine.specs.File.{program_of}
use Rattle.spec_image.specs.Layout.{ref_word, frame_words, block}
use Rattle.state_words.specs.Meaning.{control_is}
use Rattle.run_step.proofs.Loops.{see_if, see_seq}
use Rattle.run_step.proofs.statements.execute_loop.Goals as goal

pub returns-then-inner : goal.returns-then-inner
unfolding control_is ref_word frame_words block
returns-then-inner c s α f η K A R e t part k = rw (c.if-inner.true, see_seq _ _ c.requires.3 k, ← c.ref_word_at.ensures.1) (c.lay.ensures s α f η (wait (node _)) K A R e t refl)

pub returns : goal.returns
unfolding program_of ref_word frame_words block
returns c s α f η K A R e t part k = rw (c.if-inner.false, see_if _ _ c.requires.3 k, ← part, ← c.prior-condition.ensures, ← c.reach.ensures) (c.lay-2.ensures s α f η (branch (seq_of _) Ref.nop) K A R e t refl)
