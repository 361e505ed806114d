use mathlib.Core.Path.{refl}
use borrow.Author.Tests.{ne_eqb}
use Rattle.spec_image.specs.Layout.{ref_word}
use Rattle.spec_image.specs.Decode.{ref_of}
use Rattle.spec_image.proofs.ValueWords.{ref_back}
use Rattle.spec_machine.specs.Program.{node}
use Rattle.spec_machine.specs.File.{ref_at}
use Rattle.run_step.proofs.statements.ref_word_at.Goals as goal

pub returns-then-kind_at-eq6 : goal.returns-then-kind_at-eq6
unfolding ref_word ref_at ref_of
returns-then-kind_at-eq6 c = rw (← c.kind_at.ensures, c.if-kind_at-eq6.true) (refl, refl)

pub returns-else-kind_at-eq6 : goal.returns-else-kind_at-eq6
unfolding ref_word ref_at
returns-else-kind_at-eq6 c = rw (← c.kind_at.ensures, ne_eqb _ 6 c.if-kind_at-eq6.false) (refl, ref_back (node _))
