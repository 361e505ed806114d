use Rattle.check_file.proofs.sizes.+flows_apart.Given as goal

abbrev pub decreases-flows_apart : goal.decreases-flows_apart
decreases-flows_apart g l = l.k
