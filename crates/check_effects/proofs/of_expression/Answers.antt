use mathlib.Core.Path.{refl}
use borrow.Author.Tests.{ne_eqb}
use Rattle.check_effects.specs.Effects.{return_code}
use Rattle.check_effects.proofs.of_expression.Goals as goal

pub returns-then-code-eq-RETURN : goal.returns-then-code-eq-RETURN
returns-then-code-eq-RETURN c = rw c.plain.ensures (refl, refl, rw c.if-code-eq-RETURN.true c.full-all.ensures)

pub returns : goal.returns
returns c = rw c.plain-2.ensures (refl, refl, rw (ne_eqb _ return_code c.if-code-eq-RETURN.false) c.empty-none.ensures)
