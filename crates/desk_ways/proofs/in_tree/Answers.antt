use Rattle.desk_ways.specs.Ways.{in_tree}
use Rattle.desk_ways.proofs.in_tree.Goals as goal

pub returns : goal.returns
unfolding in_tree
returns c = rw c.is_under.ensures
