use mathlib.Core.Path.{sym, ◌∙◌}
use Rattle.spec_machine.specs.File.{program_of}
use Rattle.fit_frames.specs.Meaning.{incoming_is}
use Rattle.fit_frames.proofs.Chains.{chain_less, chain_more}
use Rattle.fit_frames.proofs.descent.frames_fit.Goals as goal

pub returns-in_default : goal.returns-in_default
returns-in_default c = let l = c.loop-i in let a = c.args in let p = a.known.now.part in sym (l.invariant ∙ chain_less (program_of p.file.now) p.function a.memory.now a.low l.i (incoming_is l.down) c.loop-i-test.true (sym c.in_default.ensures.ok))

pub loop-i-preserved : goal.loop-i-preserved
loop-i-preserved c = let l = c.loop-i in let a = c.args in let p = a.known.now.part in l.invariant ∙ chain_more (program_of p.file.now) p.function a.memory.now a.low l.i (incoming_is l.down) c.loop-i-test.true (sym c.in-Some.ensures.ok) ∙ rw c.in-Some.ensures.on
