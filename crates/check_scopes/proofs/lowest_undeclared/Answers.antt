use mathlib.Core.Path.{◌∙◌}
use Rattle.check_scopes.proofs.Missing.{missing_is, found_within, none_within}
use borrow.Author.Rules.{rules}
use Rattle.check_scopes.proofs.lowest_undeclared.Goals as goal

pub returns-then-x-lt64 : goal.returns-then-x-lt64
returns-then-x-lt64 c = found_within _ _ 64 (search rules) _ (c.lowest-x.ensures ∙ rw (c.minus-2.ensures, c.minus.ensures, c.minus-own.ensures, c.below-2.ensures, c.below.ensures, c.wide-2.ensures.0, c.params_of.ensures, c.wide.ensures.0, c.vars_of.ensures, missing_is _ _ _ _ _ c.requires.counted)) c.if-x-lt64.true

pub returns-else-x-lt64 : goal.returns-else-x-lt64
returns-else-x-lt64 c = none_within _ _ 64 (search rules) _ (c.lowest-x.ensures ∙ rw (c.minus-2.ensures, c.minus.ensures, c.minus-own.ensures, c.below-2.ensures, c.below.ensures, c.wide-2.ensures.0, c.params_of.ensures, c.wide.ensures.0, c.vars_of.ensures, missing_is _ _ _ _ _ c.requires.counted)) c.if-x-lt64.false
