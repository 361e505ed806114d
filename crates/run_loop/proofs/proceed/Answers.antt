use mathlib.Core.Path.{refl, ap, ◌∙◌}
use Prim.Native.Nat.{ℕ, ◌-◌}
use native.Mathlib.Omega.{arith}
use Rattle.state_words.specs.Meaning.{activation_at}
use Rattle.records.proofs.StartTables.{start_at}
use Rattle.run_loop.proofs.Starting.{file_laid}
use Rattle.run_loop.proofs.Resuming.{resumed_count, resumed_few, resumed_known, resumed_control, resumed_callers, resumed_function, resumed_frames, resumed_total, resumed_describes, resumed_at_fit, resumed_run}
use Rattle.run_loop.proofs.proceed.Goals as goal

pub starts_of-starts-requires : goal.starts_of-starts-requires
starts_of-starts-requires c = file_laid c.args.file.now c.requires.0.passed

pub overflow_cast-callers : goal.overflow_cast-callers
overflow_cast-callers c = omega (arith, resumed_count c.args.file.now c.requires.0.passed c.args.m.now c.requires.0.control c.requires.0.environment c.requires.0.function c.requires.0.variables c.requires.0.frames c.requires.0.callers c.requires.0.rest c.requires.0.held c.requires.0.fit, resumed_few c.args.file.now c.requires.0.passed c.args.m.now c.requires.0.control c.requires.0.environment c.requires.0.function c.requires.0.variables c.requires.0.frames c.requires.0.callers c.requires.0.rest c.requires.0.held c.requires.0.fit)

pub overflow_sub-callers : goal.overflow_sub-callers
overflow_sub-callers c = omega (arith, resumed_count c.args.file.now c.requires.0.passed c.args.m.now c.requires.0.control c.requires.0.environment c.requires.0.function c.requires.0.variables c.requires.0.frames c.requires.0.callers c.requires.0.rest c.requires.0.held c.requires.0.fit)

pub activation_word-function-requires : goal.activation_word-function-requires
activation_word-function-requires c = (c.requires.1, omega (arith, resumed_count c.args.file.now c.requires.0.passed c.args.m.now c.requires.0.control c.requires.0.environment c.requires.0.function c.requires.0.variables c.requires.0.frames c.requires.0.callers c.requires.0.rest c.requires.0.held c.requires.0.fit, resumed_few c.args.file.now c.requires.0.passed c.args.m.now c.requires.0.control c.requires.0.environment c.requires.0.function c.requires.0.variables c.requires.0.frames c.requires.0.callers c.requires.0.rest c.requires.0.held c.requires.0.fit), omega arith)

pub activation_word-frames-requires : goal.activation_word-frames-requires
activation_word-frames-requires c = (c.requires.1, omega (arith, resumed_count c.args.file.now c.requires.0.passed c.args.m.now c.requires.0.control c.requires.0.environment c.requires.0.function c.requires.0.variables c.requires.0.frames c.requires.0.callers c.requires.0.rest c.requires.0.held c.requires.0.fit, resumed_few c.args.file.now c.requires.0.passed c.args.m.now c.requires.0.control c.requires.0.environment c.requires.0.function c.requires.0.variables c.requires.0.frames c.requires.0.callers c.requires.0.rest c.requires.0.held c.requires.0.fit), omega arith)

pub overflow_add-callers : goal.overflow_add-callers
overflow_add-callers c = omega (arith, resumed_count c.args.file.now c.requires.0.passed c.args.m.now c.requires.0.control c.requires.0.environment c.requires.0.function c.requires.0.variables c.requires.0.frames c.requires.0.callers c.requires.0.rest c.requires.0.held c.requires.0.fit, resumed_few c.args.file.now c.requires.0.passed c.args.m.now c.requires.0.control c.requires.0.environment c.requires.0.function c.requires.0.variables c.requires.0.frames c.requires.0.callers c.requires.0.rest c.requires.0.held c.requires.0.fit)

pub frames_held-total-requires : goal.frames_held-total-requires
frames_held-total-requires c = (c.requires.1, omega (arith, resumed_count c.args.file.now c.requires.0.passed c.args.m.now c.requires.0.control c.requires.0.environment c.requires.0.function c.requires.0.variables c.requires.0.frames c.requires.0.callers c.requires.0.rest c.requires.0.held c.requires.0.fit, resumed_few c.args.file.now c.requires.0.passed c.args.m.now c.requires.0.control c.requires.0.environment c.requires.0.function c.requires.0.variables c.requires.0.frames c.requires.0.callers c.requires.0.rest c.requires.0.held c.requires.0.fit))

pub bounds-starts-function : goal.bounds-starts-function
unfolding activation_at
bounds-starts-function c = omega (arith, c.activation_word-function.ensures, resumed_function c.args.file.now c.requires.0.passed c.args.m.now c.requires.0.control c.requires.0.environment c.requires.0.function c.requires.0.variables c.requires.0.frames c.requires.0.callers c.requires.0.rest c.requires.0.held c.requires.0.fit _ refl _ refl, resumed_known c.args.file.now c.requires.0.passed c.args.m.now c.requires.0.control c.requires.0.environment c.requires.0.function c.requires.0.variables c.requires.0.frames c.requires.0.callers c.requires.0.rest c.requires.0.held c.requires.0.fit, (file_laid c.args.file.now c.requires.0.passed).few)

pub count_of-requires : goal.count_of-requires
unfolding activation_at
count_of-requires c = omega (arith, c.activation_word-function.ensures, resumed_function c.args.file.now c.requires.0.passed c.args.m.now c.requires.0.control c.requires.0.environment c.requires.0.function c.requires.0.variables c.requires.0.frames c.requires.0.callers c.requires.0.rest c.requires.0.held c.requires.0.fit _ refl _ refl, resumed_known c.args.file.now c.requires.0.passed c.args.m.now c.requires.0.control c.requires.0.environment c.requires.0.function c.requires.0.variables c.requires.0.frames c.requires.0.callers c.requires.0.rest c.requires.0.held c.requires.0.fit, (file_laid c.args.file.now c.requires.0.passed).heads)

pub overflow_sub-h : goal.overflow_sub-h
unfolding activation_at
overflow_sub-h c = omega (arith, c.activation_word-frames.ensures, resumed_frames c.args.file.now c.requires.0.passed c.args.m.now c.requires.0.control c.requires.0.environment c.requires.0.function c.requires.0.variables c.requires.0.frames c.requires.0.callers c.requires.0.rest c.requires.0.held c.requires.0.fit _ refl _ refl, c.frames_held-total.ensures, resumed_total c.args.file.now c.requires.0.passed c.args.m.now c.requires.0.control c.requires.0.environment c.requires.0.function c.requires.0.variables c.requires.0.frames c.requires.0.callers c.requires.0.rest c.requires.0.held c.requires.0.fit _ refl)

pub clear_head-requires : goal.clear_head-requires
clear_head-requires c = (c.requires.1, omega (arith, resumed_count c.args.file.now c.requires.0.passed c.args.m.now c.requires.0.control c.requires.0.environment c.requires.0.function c.requires.0.variables c.requires.0.frames c.requires.0.callers c.requires.0.rest c.requires.0.held c.requires.0.fit, resumed_few c.args.file.now c.requires.0.passed c.args.m.now c.requires.0.control c.requires.0.environment c.requires.0.function c.requires.0.variables c.requires.0.frames c.requires.0.callers c.requires.0.rest c.requires.0.held c.requires.0.fit))

pub go-requires : goal.go-requires
unfolding activation_at
go-requires c = let g = c.activation_word-function.ensures ∙ resumed_function c.args.file.now c.requires.0.passed c.args.m.now c.requires.0.control c.requires.0.environment c.requires.0.function c.requires.0.variables c.requires.0.frames c.requires.0.callers c.requires.0.rest c.requires.0.held c.requires.0.fit _ refl _ refl in
    let x = c.activation_word-frames.ensures ∙ resumed_frames c.args.file.now c.requires.0.passed c.args.m.now c.requires.0.control c.requires.0.environment c.requires.0.function c.requires.0.variables c.requires.0.frames c.requires.0.callers c.requires.0.rest c.requires.0.held c.requires.0.fit _ refl _ refl in
    let a = resumed_callers c.args.file.now c.requires.0.passed c.args.m.now c.requires.0.control c.requires.0.environment c.requires.0.function c.requires.0.variables c.requires.0.frames c.requires.0.callers c.requires.0.rest c.requires.0.held c.requires.0.fit _ refl in
    let t = resumed_describes c.args.file.now c.requires.0.passed c.args.m.now c.requires.0.control c.requires.0.environment c.requires.0.function c.requires.0.variables c.requires.0.frames c.requires.0.callers c.requires.0.rest c.requires.0.held c.requires.0.fit _ refl _ _ _ _ _ g (start_at _ c.starts_of-starts.result _ _ c.starts_of-starts.ensures (resumed_known c.args.file.now c.requires.0.passed c.args.m.now c.requires.0.control c.requires.0.environment c.requires.0.function c.requires.0.variables c.requires.0.frames c.requires.0.callers c.requires.0.rest c.requires.0.held c.requires.0.fit) g) (c.count_of.ensures.0 ∙ rw g) x (ap (λ (w : ℕ). w - c.activation_word-frames.result) c.frames_held-total.ensures) in (
      resumed_at_fit c.args.file.now c.requires.0.passed c.args.m.now c.requires.0.control c.requires.0.environment c.requires.0.function c.requires.0.variables c.requires.0.frames c.requires.0.callers c.requires.0.rest c.requires.0.held c.requires.0.fit _ refl c.starts_of-starts.result _ _ _ c.starts_of-starts.ensures t (c.control_of-c.ensures ∙ resumed_control c.args.file.now c.requires.0.passed c.args.m.now c.requires.0.control c.requires.0.environment c.requires.0.function c.requires.0.variables c.requires.0.frames c.requires.0.callers c.requires.0.rest c.requires.0.held c.requires.0.fit)
          (c.clear_head.ensures c.requires.0.control c.requires.0.environment c.requires.0.function c.requires.0.variables c.requires.0.frames c.requires.0.callers c.requires.0.rest c.requires.0.held a),
      omega (arith, c.clear_head.auto.m, c.requires.1),
      omega arith,
    )

pub returns : goal.returns
unfolding activation_at
returns c k α f η K A R e fit = let g = c.activation_word-function.ensures ∙ resumed_function c.args.file.now c.requires.0.passed c.args.m.now k α f η K A R e fit _ refl _ refl in
    let x = c.activation_word-frames.ensures ∙ resumed_frames c.args.file.now c.requires.0.passed c.args.m.now k α f η K A R e fit _ refl _ refl in
    let a = resumed_callers c.args.file.now c.requires.0.passed c.args.m.now k α f η K A R e fit _ refl in
    let t = resumed_describes c.args.file.now c.requires.0.passed c.args.m.now k α f η K A R e fit _ refl _ _ _ _ _ g (start_at _ c.starts_of-starts.result _ _ c.starts_of-starts.ensures (resumed_known c.args.file.now c.requires.0.passed c.args.m.now k α f η K A R e fit) g) (c.count_of.ensures.0 ∙ rw g) x (ap (λ (w : ℕ). w - c.activation_word-frames.result) c.frames_held-total.ensures) in
    resumed_run _ _ _ _ k α f η K A _ _ R (c.control_of-c.ensures ∙ resumed_control c.args.file.now c.requires.0.passed c.args.m.now k α f η K A R e fit) fit
    (λ q. c.go.ensures α f η K A R (c.clear_head.ensures k α f η K A R e a) t q)
