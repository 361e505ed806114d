use Rattle.fit_state.proofs.tables.+apart_fits.Given as goal

abbrev pub decreases-apart_fits : goal.decreases-apart_fits
decreases-apart_fits g l = l.k
