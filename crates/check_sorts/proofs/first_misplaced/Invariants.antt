use mathlib.Core.Path.{◌≡◌}
use Rattle.varset.specs.Lowest.{lowest}
use Rattle.check_sorts.proofs.LowestMisplaced.{seen}
use Rattle.check_sorts.proofs.first_misplaced.Given as goal

abbrev pub invariant-loop-q : goal.invariant-loop-q
invariant-loop-q l = l.low ≡ lowest (seen l.part l.n l.q) l.n
