use mathlib.Core.Path.{refl, sym, ◌∙◌}
use Rattle.records.specs.Search.{unless}
use Rattle.spec_language.proofs.Accept.{none_unless}
use Rattle.check_flow.proofs.Descending.{body_returns}
use borrow.Author.Rules.{rules}
use Rattle.check_flow.proofs.not_returning.Goals as goal

pub returns-then-row_at : goal.returns-then-row_at
returns-then-row_at c = sym (none_unless _ 0 (body_returns c.requires.0 c.requires.1 (c.fill.ensures, search rules) (c.row_at.ensures.flags, c.row_at.ensures.sets) ∙ c.if-row_at.true))

pub returns-else-row_at : goal.returns-else-row_at
unfolding unless
returns-else-row_at c = rw (body_returns c.requires.0 c.requires.1 (c.fill.ensures, search rules) (c.row_at.ensures.flags, c.row_at.ensures.sets) ∙ c.if-row_at.false) refl
