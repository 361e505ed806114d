use mathlib.Core.Path.{refl}
use native.Mathlib.Omega.{arith}
use Rattle.log_records.proofs.Extents.{few_there, extent_is}
use Rattle.log_records.proofs.extent.extent_of.Goals as goal

pub overflow_cast-n : goal.overflow_cast-n
overflow_cast-n c = omega (arith, (few_there c.args.m.now c.requires.0).0)

pub frames_held-frames-requires : goal.frames_held-frames-requires
frames_held-frames-requires c = (c.requires.1, (few_there c.args.m.now c.requires.0).0)

pub overflow_mul-result : goal.overflow_mul-result
overflow_mul-result c = omega (arith, (few_there c.args.m.now c.requires.0).0)

pub overflow_add-result : goal.overflow_add-result
overflow_add-result c = omega (arith, (few_there c.args.m.now c.requires.0).0)

pub overflow_mul-result-2 : goal.overflow_mul-result-2
overflow_mul-result-2 c = omega (arith, (few_there c.args.m.now c.requires.0).1, c.frames_held-frames.ensures)

pub overflow_add-result-2 : goal.overflow_add-result-2
overflow_add-result-2 c = omega (arith, (few_there c.args.m.now c.requires.0).1, c.frames_held-frames.ensures)

pub returns : goal.returns
returns c = extent_is c.args.m.now c.requires.0 c.requires.2 refl c.frames_held-frames.ensures
