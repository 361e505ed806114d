use native.Mathlib.Omega.{arith}
use Prim.Native.Nat.{◌-◌}
use Rattle.spec_machine.specs.Machine.{wait}
use Rattle.state_words.specs.Meaning.{control_is}
use Rattle.run_rules.proofs.Steps.{counted_under}
use Rattle.run_step.proofs.Executions.{waits_word}
use Rattle.run_step.proofs.statements.resume.Goals as goal

pub returns : goal.returns
unfolding control_is
returns c s α f η r K A R e t = let n = counted_under t (c.args.h.frames - 1) (omega (arith, c.requires.1)) in
    let q = waits_word _ _ f η r K A (R α) _ e (omega (arith, t.callers, c.requires.0.1)) n c.frame_word-word.ensures in
    rw (← q) (c.take_off.ensures s α f η (wait r) K A R e t)
