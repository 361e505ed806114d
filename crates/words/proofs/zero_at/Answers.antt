use native.Mathlib.Omega.{arith}
use Prim.Native.Nat.{◌+◌, ◌-◌}
use Rattle.words.proofs.Blocks.{zeros_lent}
use Rattle.words.proofs.zero_at.Goals as goal

pub returns : goal.returns
returns c = let a = c.args in
    zeros_lent _ a.m.now a.at a.n (a.at + a.n - a.at) (omega arith) (omega arith) (c.fill.ensures.after (λ y e. e))
