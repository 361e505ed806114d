use Rattle.std.proofs.Common.{sym, ap, ◌∙◌}
use Rattle.arith.specs.declared.Applied.TheVariants.{Int}
use Rattle.arith.proofs.Shifts.{shift_raises, shift_gives}
use Rattle.arith.proofs.Sums.{shl_law}
use Rattle.arith.proofs.shl.Goals as goal

pub returns-then-no_shift : goal.returns-then-no_shift
returns-then-no_shift c = shift_raises _ _ _ (sym c.no_shift.ensures ∙ c.if-no_shift.true)

pub returns : goal.returns
returns c = let s = c.ranges in
    ap Int (c.wrapping_shl.ensures ∙ sym (shl_law _ _ s.a.fits)) ∙ shift_gives _ _ _ s.b.fits (sym c.no_shift.ensures ∙ c.if-no_shift.false)
