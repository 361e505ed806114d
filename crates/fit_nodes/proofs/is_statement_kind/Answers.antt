use mathlib.Core.Path.{sym}
use mathlib.Core.Logic.{inl, inr}
use Rattle.spec_language.proofs.KindLists.{statement_within, statement_outside}
use Rattle.fit_nodes.proofs.is_statement_kind.Goals as goal

pub returns-in-7-to-14 : goal.returns-in-7-to-14
returns-in-7-to-14 c = sym (statement_within _ c.in-7-to-14.if-kind-lt7-own.false c.in-7-to-14.if-kind-lt15-own.true)

pub returns-in_default : goal.returns-in_default
returns-in_default c = sym (statement_outside _ (inl c.in_default.if-kind-lt7-own.true))

pub returns-in_default-2 : goal.returns-in_default-2
returns-in_default-2 c = sym (statement_outside _ (inr c.in_default.if-kind-lt15-own.false))
