use Rattle.check_file.proofs.sizes.+floor_apart.Given as goal

abbrev pub decreases-floor_apart : goal.decreases-floor_apart
decreases-floor_apart g l = l.k
