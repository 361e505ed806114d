use mathlib.Core.Path.{sym, ◌∙◌}
use native.Mathlib.Omega.{arith}
use Rattle.log_records.proofs.Ranges.{low_length, apart_count, second_room, both_put}
use Rattle.log_records.proofs.put_all_changes.Goals as goal

pub slice_bounds-put_changes-end-2 : goal.slice_bounds-put_changes-end-2
slice_bounds-put_changes-end-2 c = sym (low_length c.requires.0 c.args.a.now c.requires.0.before_long)

pub slice_bounds-put_changes-end-3 : goal.slice_bounds-put_changes-end-3
slice_bounds-put_changes-end-3 c = sym (low_length c.requires.0 c.args.b.now c.requires.0.after_long)

pub put_changes-next-requires : goal.put_changes-next-requires
put_changes-next-requires c = let e = low_length c.requires.0 c.args.a.now c.requires.0.before_long in (e ∙ sym (low_length c.requires.0 c.args.b.now c.requires.0.after_long), omega (arith, e, c.requires.0.low), omega (arith, apart_count c.requires.0, c.requires.1))

pub put_changes-requires : goal.put_changes-requires
put_changes-requires c = second_room c.requires.0 c.args.log.now c.args.at c.put_changes-next.ensures.words c.put_changes-next.ensures.log c.put_changes-next.ensures.end c.requires.1

pub returns : goal.returns
returns c = record { end = (both_put c.requires.0 c.args.log.now c.args.at c.put_changes-next.ensures.words c.put_changes.ensures.words c.put_changes-next.ensures.log c.put_changes-next.ensures.end c.put_changes.ensures.log c.put_changes.ensures.end).0; log = (both_put c.requires.0 c.args.log.now c.args.at c.put_changes-next.ensures.words c.put_changes.ensures.words c.put_changes-next.ensures.log c.put_changes-next.ensures.end c.put_changes.ensures.log c.put_changes.ensures.end).1.0; words = (both_put c.requires.0 c.args.log.now c.args.at c.put_changes-next.ensures.words c.put_changes.ensures.words c.put_changes-next.ensures.log c.put_changes-next.ensures.end c.put_changes.ensures.log c.put_changes.ensures.end).1.1 }
