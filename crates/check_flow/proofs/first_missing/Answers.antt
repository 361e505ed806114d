use mathlib.Core.Path.{refl, sym, ◌∙◌}
use borrow.Author.Rules.{rules}
use Rattle.spec_language.specs.Scopes.{uses_variable}
use Rattle.spec_language.specs.Known.{names_variable}
use Rattle.spec_language.proofs.KnownNodes.{named}
use Rattle.check_flow.proofs.Expressions.{rest_all, rest_found, rest_on, rest_none}
use Rattle.check_flow.proofs.first_missing.Goals as goal

pub loop-i-init : goal.loop-i-init
loop-i-init c = rest_all _ _ _ _ (c.requires.known.sized _ (search rules)) (c.minus-first.ensures ∙ rw c.size_at.ensures.0)

pub reads_empty-requires : goal.reads_empty-requires
unfolding names_variable uses_variable
reads_empty-requires c = (search rules, λ e. named 2 c.requires.known (search rules) e refl)

pub returns-then-reads_empty : goal.returns-then-reads_empty
returns-then-reads_empty c = sym (rest_found _ _ _ _ _ (search rules) c.reads_empty.ensures c.if-reads_empty.true) ∙ c.loop-i.invariant

pub loop-i-preserved : goal.loop-i-preserved
loop-i-preserved c = sym (rest_on _ _ _ _ _ (search rules) c.reads_empty.ensures c.if-reads_empty.false) ∙ c.loop-i.invariant

pub returns : goal.returns
returns c = sym (rest_none _ _ _ _ (search rules)) ∙ c.loop-i.invariant

pub returns-else-reads_empty : goal.returns-else-reads_empty
returns-else-reads_empty c = sym (rest_none _ _ _ _ (search rules)) ∙ sym (rest_on _ _ _ _ _ (search rules) c.reads_empty.ensures c.if-reads_empty.false) ∙ c.loop-i.invariant
