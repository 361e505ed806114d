use mathlib.Core.Path.{◌≡◌}
use Prim.Native.Nat.{◌<◌}
use Rattle.varset.specs.Sets.{has}
use Rattle.spec_language.specs.Statements.{statement_at}
use Rattle.spec_language.specs.Flow.{lacks}
use Rattle.check_flow.proofs.first_empty.Given as goal

abbrev pub invariant-loop-found : goal.invariant-loop-found
invariant-loop-found l = (lacks (statement_at l.part l.i) (has l.set.0) ≡ lacks (statement_at l.part l.initial.i) (has l.initial.set.0)) × (l.i < l.n)

abbrev pub decreases-loop-found : goal.decreases-loop-found
decreases-loop-found l = l.i
