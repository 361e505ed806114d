use Rattle.check_summary.specs.Tables.{fails_in, returns_in}
use mathlib.Core.Path.{sym}
use Rattle.check_summary.proofs.flags_of.Goals as goal

pub returns-then-ends : goal.returns-then-ends
unfolding fails_in returns_in
returns-then-ends c = (sym c.if-fails.true, sym c.if-ends.true)

pub returns-else-ends : goal.returns-else-ends
unfolding fails_in returns_in
returns-else-ends c = (sym c.if-fails.true, sym c.if-ends.false)

pub returns-then-ends-2 : goal.returns-then-ends-2
unfolding fails_in returns_in
returns-then-ends-2 c = (sym c.if-fails.false, sym c.if-ends-2.true)

pub returns-else-ends-2 : goal.returns-else-ends-2
unfolding fails_in returns_in
returns-else-ends-2 c = (sym c.if-fails.false, sym c.if-ends-2.false)
