use mathlib.Core.Path.{◌∙◌}
use native.Mathlib.Omega.{arith}
use Rattle.fit_image.proofs.Ways.{kind_one, kind_two, kind_bare}
use Rattle.fit_image.proofs.frame_ok.Goals as goal

pub returns-in-3 : goal.returns-in-3
returns-in-3 c = c.all_zero-in-3.ensures ∙ kind_one c.args.b.now (omega arith) (omega arith)

pub returns-in-6 : goal.returns-in-6
returns-in-6 c = c.all_zero.ensures ∙ kind_two c.args.b.now (omega arith)

pub returns-in-7 : goal.returns-in-7
returns-in-7 c = c.all_zero-in-7.ensures ∙ kind_bare c.args.b.now (omega arith) (omega arith)
