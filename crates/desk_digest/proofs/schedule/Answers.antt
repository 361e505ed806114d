use Rattle.std.proofs.Common.{◌≡◌, sym, refl, ap, ◌∙◌, arith, length-set, take_all}
use Rattle.desk_digest.specs.Padding.{padded}
use Rattle.desk_digest.specs.Sha256.{schedule}
use Rattle.desk_digest.proofs.Schedules.{filled}
use Rattle.desk_digest.proofs.schedule.Goals as goal

pub loop-t-init : goal.loop-t-init
unfolding schedule
loop-t-init c = (refl, refl)

pub loop-t-preserved : goal.loop-t-preserved
loop-t-preserved c = let b = c.loop-t in (simp length-set b.invariant.0, filled _ _ _ _ _ (omega (arith, b.invariant.0)) c.schedule_word.ensures b.invariant.1)

pub returns : goal.returns
returns c = let b = c.loop-t in let e : b.t ≡ 64 = omega arith in sym (take_all b.t b.w (omega (arith, b.invariant.0))) ∙ b.invariant.1 ∙ ap (schedule (padded c.args.bytes.now) c.args.at) e
