use native.Mathlib.Omega.{arith}
use lib.Dec.{lit≤}
use Rattle.check_rest.proofs.Sounds.{sound_to_eight, sound_next}
use Rattle.check_rest.proofs.floor_from.Goals as goal

pub loop-i-init : goal.loop-i-init
loop-i-init c = (c.requires.before, lit≤ tt, lit≤ tt)

pub returns-then-least-lt9 : goal.returns-then-least-lt9
returns-then-least-lt9 c = (λ k l. sound_to_eight _ _ _ _ k, lit≤ tt, lit≤ tt)

pub loop-i-preserved : goal.loop-i-preserved
loop-i-preserved c = (sound_next _ _ _ _ _ c.lower-least.ensures.1 c.lower-least.ensures.0 c.loop-i.invariant.0 c.node_floor.ensures.0, c.lower-least.ensures.3 c.node_floor.ensures.1 c.loop-i.invariant.1, omega (arith, c.lower-least.ensures.1, c.loop-i.invariant.2))

pub returns : goal.returns
returns c = (λ k l. c.loop-i.invariant.0 k (omega (arith, c.loop-i-test.false)), c.loop-i.invariant.1, c.loop-i.invariant.2)
