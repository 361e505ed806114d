use mathlib.Core.Path.{ap, ◌∙◌}
use borrow.Author.Tests.{eqb-true, eq-eqb}
use Rattle.varset.proofs.Laws.{none_is}
use Rattle.varset.specs.Sets.{has}
use Rattle.varset.proofs.EmptyWord.{zero_word}
use Rattle.varset.proofs.VarSet.is_empty.Goals as goal

pub returns : goal.returns
returns c = (λ e. ap has (eqb-true _ 0 e) ∙ none_is, λ e. eq-eqb _ 0 (zero_word _ e))
