use mathlib.Core.Path.{sym, ◌∙◌}
use Prim.Native.Nat.{◌+◌, ◌-◌}
use native.Mathlib.Omega.{arith}
use lib.ListN.{length}
use Rattle.log_records.proofs.Puts.{put_none, put_all}
use Rattle.log_records.proofs.Pieces.{piece_room, piece_put, piece_same}
use Rattle.log_records.proofs.put_changes.Goals as goal

pub loop-i-init : goal.loop-i-init
loop-i-init c = put_none _ _ _ _ _

pub put_each-next-requires : goal.put_each-next-requires
put_each-next-requires c = piece_room c.loop-i.invariant 32 ((c.loop-i.i + 32) - c.loop-i.i) ((c.loop-i.i + 32) - c.loop-i.i) (omega arith) (omega arith) (omega (arith, c.loop-i-test.true)) c.requires.0 c.requires.1 c.requires.2

pub loop-i-preserved-then-differing-ne0 : goal.loop-i-preserved-then-differing-ne0
loop-i-preserved-then-differing-ne0 c = piece_put c.loop-i.invariant 32 ((c.loop-i.i + 32) - c.loop-i.i) ((c.loop-i.i + 32) - c.loop-i.i) (omega arith) (omega arith) (omega (arith, c.loop-i-test.true)) c.requires.0 c.put_each-next.ensures.end c.put_each-next.ensures.log c.put_each-next.ensures.words

pub loop-i-preserved : goal.loop-i-preserved
loop-i-preserved c = piece_same c.loop-i.invariant 32 ((c.loop-i.i + 32) - c.loop-i.i) ((c.loop-i.i + 32) - c.loop-i.i) (omega arith) (omega arith) (omega (arith, c.loop-i-test.true)) c.requires.0 (sym (c.differing.ensures.0 _) ∙ c.if-differing-ne0.false)

pub put_each-requires : goal.put_each-requires
put_each-requires c = piece_room c.loop-i.invariant (length c.args.a.now - c.loop-i.i) (length c.loop-i.a - c.loop-i.i) (length c.args.b.now - c.loop-i.i) (omega (arith, c.loop-i.invariant.wide)) (omega (arith, c.requires.0)) (omega (arith, c.loop-i.invariant.inside)) c.requires.0 c.requires.1 c.requires.2

pub returns : goal.returns
returns c = let s = piece_put c.loop-i.invariant (length c.args.a.now - c.loop-i.i) (length c.loop-i.a - c.loop-i.i) (length c.args.b.now - c.loop-i.i) (omega (arith, c.loop-i.invariant.wide)) (omega (arith, c.requires.0)) (omega (arith, c.loop-i.invariant.inside)) c.requires.0 c.put_each.ensures.end c.put_each.ensures.log c.put_each.ensures.words in let q = put_all s (omega (arith, c.loop-i.invariant.inside)) c.requires.0 in record { end = q.0; log = q.1; words = q.2 }
