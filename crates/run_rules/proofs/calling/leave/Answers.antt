use Rattle.records.specs.Fields.{functions}
use mathlib.Core.Path.{refl, sym, ◌∙◌}
use Prim.Native.Nat.{◌-◌, ◌<◌}
use native.Mathlib.Omega.{arith}
use lib.ListN.{length-append}
use Rattle.state_words.specs.Meaning.{control_is}
use Rattle.spec_image.specs.Image.{saved_frames}
use Rattle.run_rules.proofs.Entries.{left_describes, left_callers, left_under, on_is}
use Rattle.records.proofs.StartTables.{start_at}
use borrow.Author.Rules.{rules}
use Rattle.run_rules.proofs.calling.leave.Goals as goal

pub bounds-starts-function : goal.bounds-starts-function
bounds-starts-function c = let r = c.caller_function-function.ensures _ _ _ _ _ _ _ _ c.requires.caller.held (left_callers c.requires.caller.describes _ (omega (arith, c.requires.bounds.1))) in omega (arith, r, c.requires.caller.known, c.requires.bounds.2.0.few)

pub count_of-requires : goal.count_of-requires
count_of-requires c = let r = c.caller_function-function.ensures _ _ _ _ _ _ _ _ c.requires.caller.held (left_callers c.requires.caller.describes _ (omega (arith, c.requires.bounds.1))) in omega (arith, r, c.requires.caller.known, c.requires.bounds.2.0.heads)

pub overflow_sub-result : goal.overflow_sub-result
overflow_sub-result c = let r = c.caller_frames-frames.ensures _ _ _ _ _ _ _ _ c.requires.caller.held (left_callers c.requires.caller.describes _ (omega (arith, c.requires.bounds.1))) in omega (arith, r, left_under c.requires.caller.describes)

pub returns : goal.returns
unfolding control_is
returns c α f η J g θ L A R e t = let a = left_callers t (c.args.h.callers - 1) (omega (arith, c.requires.bounds.1)) in
    let r = c.caller_function-function.ensures f η J g θ L A (R α) e a in
    let o = c.caller_function-function.ensures _ _ _ _ _ _ _ _ c.requires.caller.held (left_callers c.requires.caller.describes _ (omega (arith, c.requires.bounds.1))) in
    let k = c.caller_frames-frames.ensures f η J g θ L A (R α) e a in
    let u = left_under t in
    let known : g < functions c.args.file.now = rw (sym r ∙ o) c.requires.caller.known in
    on_is _ _ _ _ _ R α _ _ _ θ L A c.from-c.ensures refl
    (c.leave.ensures f η J g θ L A (R α) e a (omega (arith, u, length-append L (saved_frames A))) t.frames)
    (left_describes _ _ f J g θ L A _ _ _ _ _ _ t r (start_at _ c.args.starts.now g _ c.requires.bounds.2 known r) (c.count_of.ensures.0 ∙ rw r) (omega (arith, c.requires.bounds.1)) k refl)
    (search rules) (omega (arith, k, u, c.requires.bounds.0.2))
