use Rattle.std.proofs.Common.{◌≡◌, length, refl, ◌∙◌, add-one, arith, length-append, rules}
use Rattle.std.proofs.lemmas.Slice.Zip.{zip_turn, zip_end}
use Rattle.desk_digest.specs.Constants.{constants}
use Rattle.desk_digest.specs.Sha256.{rounds, compress}
use Rattle.desk_digest.proofs.compress.Goals as goal

pub loop-k-init : goal.loop-k-init
unfolding rounds
loop-k-init c = refl

pub loop-k-preserved : goal.loop-k-preserved
unfolding rounds constants
loop-k-preserved c =
    let t = zip_turn constants c.args.w.now c.loop-k.yielded c.into_iter-k-iterator.result c.loop-k.k-iterator c.next.new.self c.next.result (search rules) (search rules) c.loop-k.yielded_by (c.in-Some.k, c.in-Some.word) c.in-Some.is c.next.ensures.steps in
    c.round-next.ensures ∙ rw (c.loop-k.invariant, t.2 0, t.3 0, length-append, add-one)

pub returns : goal.returns
unfolding compress constants
returns c =
    let e : length c.loop-k.yielded ≡ 64 = zip_end constants c.args.w.now c.loop-k.yielded c.into_iter-k-iterator.result c.loop-k.k-iterator c.next.new.self c.next.result (search rules) (search rules) c.loop-k.yielded_by c.in-None.is c.next.ensures.steps ∙ omega arith in
    c.sums.ensures ∙ rw (c.loop-k.invariant, e)
