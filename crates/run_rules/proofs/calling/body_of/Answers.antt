use mathlib.Core.Path.{◌∙◌}
use borrow.Author.Tests.{ne_eqb}
use Rattle.spec_machine.specs.File.{ref_at, fun_of}
use Rattle.spec_machine.specs.Program.{node}
use Rattle.spec_image.specs.Layout.{ref_word}
use Rattle.spec_image.specs.Decode.{ref_of}
use Rattle.spec_image.proofs.ValueWords.{ref_back}
use Rattle.run_rules.proofs.Looks.{body_kind}
use borrow.Author.Rules.{rules}
use Rattle.run_rules.proofs.calling.body_of.Goals as goal

pub returns-then-kind-eq6 : goal.returns-then-kind-eq6
unfolding ref_of ref_at fun_of
returns-then-kind-eq6 c g a b = rw (body_kind _ g _ _ a b (search rules), c.if-kind-eq6.true)

pub returns-else-kind-eq6 : goal.returns-else-kind-eq6
unfolding ref_at fun_of ref_word
returns-else-kind-eq6 c g a b = ref_back (node _) ∙ rw (body_kind _ g _ _ a b (search rules), ne_eqb _ 6 c.if-kind-eq6.false, b)
