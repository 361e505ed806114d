use mathlib.Core.Path.{refl, sym, ◌∙◌}
use borrow.Author.Tests.{lt-ltb, le-ltb}
use Rattle.spec_language.specs.Types.{mask_type, operator_type}
use Rattle.spec_machine.specs.File.{types_from}
use Rattle.spec_image.specs.Decode.{operands}
use Rattle.fit_frames.proofs.Steps.{gather_unknown, gather_less, gather_law}
use Rattle.fit_frames.proofs.operator_step.Goals as goal

pub returns-then-x : goal.returns-then-x
unfolding operands
returns-then-x c = gather_unknown c.in_ok-kind.was (rw (sym c.word-x.ensures) (le-ltb _ _ c.if-x.true))

pub returns-then-not-gathers : goal.returns-then-not-gathers
unfolding operands types_from
returns-then-not-gathers c = gather_less c.in_ok-kind.was (mask_type 0 0 0) 2 (rw (sym c.word-x.ensures) (lt-ltb _ _ c.if-x.false)) refl c.if-not-gathers.ensures

pub returns : goal.returns
unfolding operands types_from operator_type
returns c = gather_law c.in_ok-kind.was (mask_type 0 0 0) 2 (rw (sym c.word-x.ensures) (lt-ltb _ _ c.if-x.false)) refl c.if-not-gathers.ensures (c.giving.ensures ∙ rw (c.operator_type.ensures, c.word-x.ensures))
