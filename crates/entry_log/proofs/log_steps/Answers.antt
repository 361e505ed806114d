use Prim.Native.Nat.{◌-◌}
use native.Mathlib.Omega.{arith}
use Rattle.entry_log.proofs.Steps.{no_env, state_held}
use Rattle.entry_log.proofs.Loops.{logging_none, logging_held, took_room, logging_on, ended_early, ended_spent}
use Rattle.entry_log.proofs.log_steps.Goals as goal

pub extent_of-extent-requires : goal.extent_of-extent-requires
extent_of-extent-requires c = (state_held c.args.file.now c.requires.0.passed c.requires.0.state c.requires.0.rest c.requires.0.fit c.requires.0.held, c.requires.1, no_env c.requires.0.state c.requires.0.rest c.args.file.now c.requires.0.fit c.requires.0.held)

pub loop-steps-init : goal.loop-steps-init
loop-steps-init c = logging_none _ _ _ _ _ _ _ c.requires.2 c.extent_of-extent.ensures

pub log_step-requires : goal.log_step-requires
log_step-requires c = let q = logging_held c.args.file.now (λ i. (c.shared_slice_known-1.given i).fits) c.requires.0.passed c.loop-steps.invariant c.requires.0 in (q.0, omega (arith, c.loop-steps.invariant.long, c.requires.1), q.1, q.2)

pub overflow_add-next : goal.overflow_add-next
overflow_add-next c = let t = c.loop-steps.invariant.reached c.requires.0.state c.requires.0.rest c.requires.0.held c.requires.0.fit in omega (arith, took_room c.args.file.now (λ i. (c.shared_slice_known-1.given i).fits) c.requires.0.passed c.loop-steps.invariant c.loop-steps-test.true t.state c.requires.0.rest t.fit (rw c.in-Ok.is at (c.log_step.ensures t.state c.requires.0.rest t.held t.fit)), c.loop-steps.invariant.room)

pub loop-steps-preserved : goal.loop-steps-preserved
loop-steps-preserved c = logging_on c.args.file.now (λ i. (c.shared_slice_known-1.given i).fits) c.requires.0.passed c.loop-steps.invariant c.loop-steps-test.true c.log_step.auto.m c.log_step.auto.before c.log_step.auto.log (λ s R e f. rw c.in-Ok.is at (c.log_step.ensures s R e f))

pub returns-in-Err : goal.returns-in-Err
returns-in-Err c s R e f = ended_early c.args.file.now (λ i. (c.shared_slice_known-1.given i).fits) c.requires.0.passed c.loop-steps.invariant c.loop-steps-test.true c.in-Err.stop _ s R e f (λ t Q h k. rw c.in-Err.is at (c.log_step.ensures t Q h k))

pub run-ran-requires : goal.run-ran-requires
run-ran-requires c = ((logging_held c.args.file.now (λ i. (c.shared_slice_known-1.given i).fits) c.requires.0.passed c.loop-steps.invariant c.requires.0).0, omega (arith, c.loop-steps.invariant.long, c.requires.1))

pub returns : goal.returns
returns c s R e f = ended_spent c.args.file.now (λ i. (c.shared_slice_known-1.given i).fits) c.requires.0.passed c.loop-steps.invariant s R c.loop-steps-test.false e f c.run-ran.ensures
