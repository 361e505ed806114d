use mathlib.Core.Path.{sym, ◌∙◌}
use native.Mathlib.Omega.{arith}
use Rattle.spec_log.proofs.Changes.{changes_few}
use Rattle.log_records.proofs.Ranges.{low_length, apart_count}
use Rattle.log_records.proofs.count_changes.Goals as goal

pub slice_bounds-differing-end : goal.slice_bounds-differing-end
slice_bounds-differing-end c = sym (low_length c.requires c.args.a.now c.requires.before_long)

pub slice_bounds-differing-end-2 : goal.slice_bounds-differing-end-2
slice_bounds-differing-end-2 c = sym (low_length c.requires c.args.b.now c.requires.after_long)

pub differing-requires : goal.differing-requires
differing-requires c = let e = low_length c.requires c.args.a.now c.requires.before_long in (e ∙ sym (low_length c.requires c.args.b.now c.requires.after_long), omega (arith, e, c.requires.low))

pub returns : goal.returns
returns c = let z = apart_count c.requires in (omega (arith, z, c.differing.ensures.0 0, c.differing-2.ensures.0 4480), omega (arith, z, c.differing.ensures.0 0, c.differing-2.ensures.0 4480, changes_few 0 c.args.a.now c.args.b.now, c.requires.before_long))
