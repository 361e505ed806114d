use mathlib.Core.Path.{sym}
use lib.Seq.{length-take-le}
use Rattle.spec_image.specs.Sizes.{size}
use Rattle.entry_log.proofs.log_run.Goals as goal

pub slice_bounds-copy-end-3 : goal.slice_bounds-copy-end-3
slice_bounds-copy-end-3 c = sym (length-take-le size c.args.m.now c.requires.1)

pub copy-requires : goal.copy-requires
copy-requires c = sym (length-take-le size c.args.m.now c.requires.1)
