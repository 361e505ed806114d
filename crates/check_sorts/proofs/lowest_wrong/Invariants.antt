use Prim.Native.Nat.{min}
use Rattle.varset.specs.Lowest.{lowest}
use Rattle.records.specs.Fields.{kind_at}
use Rattle.records.specs.Children.{children}
use Rattle.records.specs.Numbered.{left_of}
use Rattle.spec_language.specs.Nodes.{wrong_child}
use Rattle.check_sorts.proofs.LowestMisplaced.{Lower}
use Rattle.check_sorts.proofs.lowest_wrong.Given as goal

abbrev pub invariant-loop-k : goal.invariant-loop-k
invariant-loop-k l =
    Lower l.part l.n (kind_at l.part l.q) (min l.best (lowest (wrong_child l.part (kind_at l.part l.q) (children l.part l.q)) l.n)) (left_of l.k-iterator.part.now l.k-iterator.left l.k-iterator.last) l.low
