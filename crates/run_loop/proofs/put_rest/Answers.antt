use lib.ListN.{length-set}
use native.Mathlib.Omega.{arith}
use Rattle.run_loop.proofs.Ending.{rest_stored}
use Rattle.run_loop.proofs.put_rest.Goals as goal

pub bounds-m-1 : goal.bounds-m-1
bounds-m-1 c = simp length-set (omega arith)

pub returns : goal.returns
returns c s R cl r = rest_stored s c.args.m.now R _ _ cl r
