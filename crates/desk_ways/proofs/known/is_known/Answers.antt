use Rattle.desk_ways.specs.KnownNode.{known_node}
use Rattle.desk_ways.proofs.known.is_known.Goals as goal

pub returns : goal.returns
unfolding known_node
returns c = rw (c.a_at.ensures, c.b_at.ensures, c.names_variable.ensures, c.size_at.ensures.0, c.arity_at.ensures.0, c.kind_at-kind.ensures)
