use Prim.Native.Nat.{◌-◌}
use Rattle.entry_log.proofs.Loops.{Logging}
use Rattle.entry_log.proofs.log_steps.Given as goal

abbrev pub invariant-loop-steps : goal.invariant-loop-steps
invariant-loop-steps l = Logging l.file l.initial.m l.initial.before l.allowed l.initial.log l.used l.m l.before l.log l.extent l.next l.steps

abbrev pub decreases-loop-steps : goal.decreases-loop-steps
decreases-loop-steps l = l.allowed - l.steps
