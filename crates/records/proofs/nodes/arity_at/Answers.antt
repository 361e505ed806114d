use Rattle.records.specs.Children.{arity_at}
use borrow.Author.Rules.{rules}
use Rattle.records.proofs.nodes.arity_at.Goals as goal

pub returns : goal.returns
unfolding arity_at
returns c = (rw (c.arity.ensures.0, c.kind_at.ensures, c.a_at.ensures), search rules)
