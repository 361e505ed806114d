use Rattle.run_loop.proofs.Ending.{ends_spent}
use mathlib.Core.Path.{◌≡◌, refl, ◌∙◌}
use mathlib.Core.List.{◌++◌}
use Prim.Native.Nat.{◌+◌, ◌-◌}
use native.Mathlib.Omega.{arith}
use Rattle.spec_machine.specs.Machine as machine
use Rattle.spec_machine.specs.File.{program_of}
use Rattle.spec_image.specs.Layout.{env_words}
use Rattle.run_loop.proofs.Reaching.{reached, reached_at_fit, reached_on, reached_full, reached_returned, reached_arith, reached_abort, reached_bounds}
use Rattle.run_loop.proofs.go.Goals as goal

pub loop-steps-init : goal.loop-steps-init
loop-steps-init c = (refl, λ α f η K A R e t q. reached _ _ _ _ _ _ R α f η K A e t q)

pub step-requires : goal.step-requires
step-requires c = let l = c.loop-steps in
    let r = l.invariant.1 c.requires.0.environment c.args.head.function c.requires.0.variables c.requires.0.frames c.requires.0.callers c.requires.0.rest c.requires.0.held c.requires.0.describes c.requires.0.fit in
    let q = reached_at_fit _ c.args.starts.now _ _ _ _ _ _ _ _ c.requires.0.passed c.requires.0.starts r in
    (q, omega (arith, l.invariant.0, c.requires.1))

pub loop-steps-preserved : goal.loop-steps-preserved
loop-steps-preserved c = (
  c.step.auto.m ∙ c.loop-steps.invariant.0,
  λ α f η K A R e t fit.
      let l = c.loop-steps in
      let r = l.invariant.1 α f η K A R e t fit in
      let d = c.step.ensures r.environment r.function r.variables r.frames r.callers (λ β. env_words β ++ R) r.held r.describes r.fit in
      reached_on _ (λ i. (c.shared_slice_known-1.given i).fits) c.requires.0.passed _ _ _ _ _ _ _ _ R c.loop-steps-test.true r _ _ (rw c.in-Went.is at d),
)

pub stop-requires : goal.stop-requires
stop-requires c = let l = c.loop-steps in
    let r = l.invariant.1 c.requires.0.environment c.args.head.function c.requires.0.variables c.requires.0.frames c.requires.0.callers c.requires.0.rest c.requires.0.held c.requires.0.describes c.requires.0.fit in
    let w = reached_bounds _ _ _ _ _ _ _ _ _ r (omega (arith, l.invariant.0, c.requires.1)) in
    (omega (arith, c.step.auto.m, l.invariant.0, c.requires.1), w.1, w.2)

pub returns-in-Full : goal.returns-in-Full
returns-in-Full c α f η K A R e t fit = let l = c.loop-steps in
    let r = l.invariant.1 α f η K A R e t fit in
    let d = c.step.ensures r.environment r.function r.variables r.frames r.callers (λ β. env_words β ++ R) r.held r.describes r.fit in
    rw (c.stop.ensures.0, c.stop.ensures.1) (reached_full _ (λ i. (c.shared_slice_known-1.given i).fits) c.requires.0.passed _ _ _ _ _ _ _ _ R c.loop-steps-test.true r (rw c.in-Full.is at d) _ (λ i. c.stop.ensures.2 c.args.file.now r.environment r.function r.variables r.frames r.callers R (i ∙ r.held) r.describes))

pub returns-in-Returned : goal.returns-in-Returned
returns-in-Returned c α f η K A R e t fit = let l = c.loop-steps in
    let r = l.invariant.1 α f η K A R e t fit in
    let d = c.step.ensures r.environment r.function r.variables r.frames r.callers (λ β. env_words β ++ R) r.held r.describes r.fit in
    reached_returned _ (λ i. (c.shared_slice_known-1.given i).fits) c.requires.0.passed _ _ _ _ _ _ _ _ R c.loop-steps-test.true r _ (rw c.in-Returned.is at d) _ _ _ (λ β n i. c.finish.ensures _ β R n i)

pub returns-in-Arith : goal.returns-in-Arith
returns-in-Arith c α f η K A R e t fit = let l = c.loop-steps in
    let r = l.invariant.1 α f η K A R e t fit in
    let d = c.step.ensures r.environment r.function r.variables r.frames r.callers (λ β. env_words β ++ R) r.held r.describes r.fit in
    rw (c.fail.ensures.0, c.fail.ensures.1) (reached_arith _ (λ i. (c.shared_slice_known-1.given i).fits) c.requires.0.passed _ _ _ _ _ _ _ _ R c.loop-steps-test.true r (rw c.in-Arith.is at d) _ (λ i. c.fail.ensures.2 machine.arith R refl i))

pub returns-in-Abort : goal.returns-in-Abort
returns-in-Abort c α f η K A R e t fit = let l = c.loop-steps in
    let r = l.invariant.1 α f η K A R e t fit in
    let d = c.step.ensures r.environment r.function r.variables r.frames r.callers (λ β. env_words β ++ R) r.held r.describes r.fit in
    rw (c.fail-in-Abort.ensures.0, c.fail-in-Abort.ensures.1) (reached_abort _ (λ i. (c.shared_slice_known-1.given i).fits) c.requires.0.passed _ _ _ _ _ _ _ _ R c.loop-steps-test.true r (rw c.in-Abort.is at d) _ (λ i. c.fail-in-Abort.ensures.2 machine.abort R refl i))

pub stop-requires-2 : goal.stop-requires-2
stop-requires-2 c = let l = c.loop-steps in
    let r = l.invariant.1 c.requires.0.environment c.args.head.function c.requires.0.variables c.requires.0.frames c.requires.0.callers c.requires.0.rest c.requires.0.held c.requires.0.describes c.requires.0.fit in
    reached_bounds _ _ _ _ _ _ _ _ _ r (omega (arith, l.invariant.0, c.requires.1))

pub returns : goal.returns
returns c α f η K A R e t fit = let l = c.loop-steps in
    let r = l.invariant.1 α f η K A R e t fit in
    let z : l.steps ≡ c.args.allowed = omega arith in
    rw (c.stop-2.ensures.0, c.stop-2.ensures.1) (rw z at (r.then _ _ _ (ends_spent (program_of c.args.file.now) c.args.allowed _ _ _ _ _ _ _ _ R c.loop-steps-test.false
    (c.stop-2.ensures.2 c.args.file.now r.environment r.function r.variables r.frames r.callers R r.held r.describes))))
