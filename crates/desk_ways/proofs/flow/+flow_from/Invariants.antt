use Rattle.desk_ways.proofs.flow.+flow_from.Given as goal

abbrev pub decreases-flow_from : goal.decreases-flow_from
decreases-flow_from l = l.i
