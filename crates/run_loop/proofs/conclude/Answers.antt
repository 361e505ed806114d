use lib.ListN.{length-set}
use mathlib.Core.Path.{◌∙◌}
use native.Mathlib.Omega.{arith}
use native.Mathlib.Nat.{sub-zero}
use Rattle.spec_image.specs.Image.{env_part}
use Rattle.run_loop.proofs.Starting.{cleared}
use Rattle.run_loop.proofs.conclude.Goals as goal

pub bounds-m-1 : goal.bounds-m-1
bounds-m-1 c = simp length-set (omega arith)

pub shape_of-m : goal.shape_of-m
shape_of-m c = c.finish.auto.m ∙ simp length-set

pub returns : goal.returns
returns c P α R n e = rw (sub-zero c.args.allowed) at (c.finish.ensures P α R n (unfold env_part in (cleared _ _ R tt e)))
