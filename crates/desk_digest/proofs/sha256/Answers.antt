use Rattle.std.proofs.Common.{◌≡◌, ◌/◌, length, ◌∙◌, add-one, arith, refl}
use Rattle.desk_digest.specs.Padding.{padded}
use Rattle.desk_digest.specs.Constants.{initial}
use Rattle.desk_digest.specs.Sha256.{hash, sha256}
use Rattle.desk_digest.proofs.Paddings.{padded_length}
use Rattle.desk_digest.proofs.sha256.Goals as goal

pub loop-i-init : goal.loop-i-init
unfolding hash initial
loop-i-init c = refl

pub schedule-requires : goal.schedule-requires
schedule-requires c = omega (arith, padded_length c.args.bytes.now)

pub loop-i-preserved : goal.loop-i-preserved
unfolding hash
loop-i-preserved c = c.compress-next.ensures ∙ rw (c.schedule.ensures, c.loop-i.invariant, add-one)

pub returns : goal.returns
unfolding sha256
returns c = let m = c.args.bytes.now in
    let e : length (padded m) / 64 ≡ c.loop-i.i = omega (arith, padded_length m) in
    c.bytes_of.ensures ∙ rw (c.loop-i.invariant, e)
