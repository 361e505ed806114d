use mathlib.Core.Path.{refl}
use Rattle.log_records.proofs.Puts.{lay_none, lay_one, lay_all}
use Rattle.log_records.proofs.put_words.Goals as goal

pub loop-i-init : goal.loop-i-init
loop-i-init c = lay_none _ _ _ _

pub loop-i-preserved : goal.loop-i-preserved
loop-i-preserved c = lay_one c.loop-i.invariant c.loop-i-test.true c.requires.0 _ _ c.put_u32.ensures refl

pub returns : goal.returns
returns c = record { log = (lay_all c.loop-i.invariant c.loop-i-test.false c.requires.0).0; words = (lay_all c.loop-i.invariant c.loop-i-test.false c.requires.0).1 }
