use mathlib.Core.Path.{refl, sym, ◌∙◌}
use borrow.Author.Tests.{not-true}
use Rattle.check_effects.proofs.EffectParts.{scope_means}
use Rattle.check_effects.proofs.in_scope.Goals as goal

pub returns : goal.returns
returns c = λ s d o p l. scope_means o p (sym c.contains.ensures ∙ not-true _ (c.code_if.ensures l).0) refl (c.code_if.ensures l).1 c.remove.ensures
