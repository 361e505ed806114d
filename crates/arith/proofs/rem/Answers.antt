use Rattle.std.proofs.Common.{sym, ◌∙◌}
use lib.Signed.{rem_z}
use Rattle.arith.specs.Operators.{rem_of}
use Rattle.arith.proofs.Divisions.{raised, asked, divided_is, rem-fits}
use Rattle.arith.proofs.rem.Goals as goal

pub returns-then-no_quotient : goal.returns-then-no_quotient
returns-then-no_quotient c = raised _ _ _ (sym c.no_quotient.ensures ∙ c.if-no_quotient.true)

pub nonzero_rem-x : goal.nonzero_rem-x
nonzero_rem-x c = asked _ _ c.ranges.a.fits c.ranges.b.fits (sym c.no_quotient.ensures ∙ c.if-no_quotient.false) c.signed-x.ensures c.signed-y.ensures

pub returns : goal.returns
unfolding rem_of
returns c = let ha = c.ranges.a.fits in
    let hb = c.ranges.b.fits in
    let e = sym c.no_quotient.ensures ∙ c.if-no_quotient.false in
    divided_is _ _ ha hb e c.signed-x.ensures c.signed-y.ensures rem_z (rem-fits _ _ ha) c.bits.ensures
