use lib.ListN.{get_or}
use Rattle.records.specs.Children.{arity_at, children}
use Rattle.records.specs.Numbered.{left_of}
use Rattle.spec_language.specs.Types.{want_at, agree}
use Rattle.check_types.proofs.Agree.{Agrees}
use Rattle.check_types.proofs.children_agree.Given as goal

abbrev pub invariant-loop-k : goal.invariant-loop-k
invariant-loop-k l =
    Agrees (want_at l.file l.f l.part l.n l.i) (λ k. get_or l.types k 0) l.n (arity_at l.part l.i) (agree (want_at l.file l.f l.part l.n l.i) (λ k. get_or l.types k 0) (children l.part l.i)) (left_of l.k-iterator.part.now l.k-iterator.left l.k-iterator.last)
