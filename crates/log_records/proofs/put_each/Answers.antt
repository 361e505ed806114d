use mathlib.Core.Path.{◌∙◌}
use Rattle.log_records.proofs.Puts.{put_none, same_put, put_room, other_put, put_all}
use Rattle.log_records.proofs.put_each.Goals.{then-old-new, else-old-new}
use Rattle.log_records.proofs.put_each.Goals as goal

pub loop-i-init : goal.loop-i-init
loop-i-init c = put_none _ _ _ _ _

pub put_change-requires : goal.put_change-requires
put_change-requires c = put_room c.loop-i.invariant c.loop-i-test.true c.requires.0 c.if-old-new.true c.requires.2

pub loop-i-preserved : goal.loop-i-preserved
loop-i-preserved c =
    elim c.if-old-new.branch [
      | then-old-new w ↦ other_put c.loop-i.invariant c.loop-i-test.true c.requires.0 _ _ _ (w.log-is ∙ w.put_change.ensures) w.a-is w.next-is w.if-old-new.true
      | else-old-new w ↦ same_put c.loop-i.invariant c.loop-i-test.true c.requires.0 w.if-old-new.false _ _ _ w.log-is w.a-is w.next-is
    ]

pub returns : goal.returns
returns c = let q = put_all c.loop-i.invariant c.loop-i-test.false c.requires.0 in record { end = q.0; log = q.1; words = q.2 }
