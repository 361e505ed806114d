use Prim.Native.Nat.{◌+◌}
use Rattle.records.specs.Fields.{size_at}
use Rattle.records.specs.Children.{children}
use Rattle.records.specs.Numbered.{left_of}
use Rattle.spec_language.specs.Nodes.{total}
use Rattle.check_shape.proofs.Sizes.{Sum}
use Rattle.check_shape.proofs.total_size.Given as goal

abbrev pub invariant-loop-child : goal.invariant-loop-child
invariant-loop-child l = Sum l.part (l.i + 1) (total (size_at l.part) (children l.part l.i)) (left_of l.child-iterator.part.now l.child-iterator.left l.child-iterator.last) l.sum
