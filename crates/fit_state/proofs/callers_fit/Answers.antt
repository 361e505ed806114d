use lib.ListN.{get_or}
use mathlib.Core.Path.{refl, sym, ◌∙◌}
use Prim.Native.Nat.{◌-◌}
use native.Mathlib.Omega.{arith}
use borrow.Author.Tests.{ltb-true}
use Rattle.spec_machine.specs.File.{program_of, fun_of}
use Rattle.state_words.proofs.Totals.{total_last}
use Rattle.fit_state.specs.Activations.{calls}
use Rattle.fit_state.specs.Meaning.{frames_to}
use Rattle.fit_state.proofs.Lists.{callers_less, callers_more, fit_known}
use Rattle.fit_state.proofs.callers_fit.Goals as goal

pub returns-then-not-activation_fits : goal.returns-then-not-activation_fits
unfolding program_of fun_of
returns-then-not-activation_fits c = let l = c.loop-a in let m = c.args.m.now in sym (l.invariant.same ∙ callers_less (program_of c.args.parts.now.file.now) m (get_or m 14721 0) l.g l.a l.top c.loop-a-test.true (rw c.result_of-t.ensures at (sym c.if-not-activation_fits.ensures.value)))

pub overflow_sub-top : goal.overflow_sub-top
overflow_sub-top c = let l = c.loop-a in omega (arith, l.invariant.top, total_last c.args.m.now l.a c.activation_word.result c.loop-a-test.true c.activation_word.ensures)

pub loop-a-preserved : goal.loop-a-preserved
unfolding program_of fun_of
loop-a-preserved c =
    let l = c.loop-a in
    let m = c.args.m.now in
    let P = program_of c.args.parts.now.file.now in
    let fits = sym c.if-not-activation_fits.ensures.value in
    let t = total_last m l.a c.activation_word.result c.loop-a-test.true c.activation_word.ensures in
    record {
      known = ltb-true _ _ (fit_known P (calls c.result_of-t.result) m (l.a - 1) (frames_to m l.top) c.activation_word-g.result c.activation_word-g.ensures fits);
      top = omega (arith, l.invariant.top, t);
      room = omega (arith, l.invariant.room);
      same = l.invariant.same ∙ callers_more P m (get_or m 14721 0) l.g l.a l.top c.loop-a-test.true c.activation_word-g.result c.activation_word.result c.activation_word-g.ensures c.activation_word.ensures (omega (arith, l.invariant.top, t)) (rw c.result_of-t.ensures at fits);
      length = c.activation_fits.auto.table ∙ l.invariant.length;
      filled = c.if-not-activation_fits.ensures.filled _ c.activation_word-g.ensures refl;
    }
