use Rattle.std.proofs.Common.{sym, ◌∙◌}
use Rattle.arith.proofs.Divisions.{shifted_is}
use Rattle.arith.proofs.Shifts.{shift_raises, shift_gives}
use Rattle.arith.proofs.shr.Goals as goal

pub returns-then-no_shift : goal.returns-then-no_shift
returns-then-no_shift c = shift_raises _ _ _ (sym c.no_shift.ensures ∙ c.if-no_shift.true)

pub returns : goal.returns
returns c = let s = c.ranges in
    shifted_is _ _ s.a.fits c.signed.ensures (c.bits.ensures ∙ rw c.wrapping_shr.ensures)
    ∙ shift_gives _ _ _ s.b.fits (sym c.no_shift.ensures ∙ c.if-no_shift.false)
