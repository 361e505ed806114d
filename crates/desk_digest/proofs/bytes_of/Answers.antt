use Rattle.std.proofs.Common.{◌≡◌, sym, refl, ap, ◌∙◌, arith, rules}
use Rattle.std.proofs.lemmas.List.{take_all}
use Rattle.std.proofs.lemmas.Slice.{overwrites}
use Rattle.desk_digest.specs.Sha256.{bytes_of}
use Rattle.desk_digest.proofs.Rounds.{bytes_more}
use Rattle.desk_digest.proofs.bytes_of.Goals as goal

pub loop-i-init : goal.loop-i-init
unfolding bytes_of
loop-i-init c = (refl, refl)

pub loop-i-preserved : goal.loop-i-preserved
loop-i-preserved c = (search (rules, overwrites), bytes_more _ _ _ _ _ (search rules) (omega arith) c.loop-i.invariant.1 (c.copy_from_slice.ensures.after ∙ c.to_be_bytes.ensures))

pub returns : goal.returns
returns c =
    let done : c.loop-i.i ≡ 8 = omega arith in
    sym (take_all 32 c.loop-i.out (omega arith)) ∙ (rw done at c.loop-i.invariant.1) ∙ ap bytes_of (take_all 8 c.args.s (search rules))
