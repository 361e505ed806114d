use mathlib.Core.Path.{sym, ◌∙◌}
use native.Mathlib.Omega.{arith}
use borrow.Author.Tests.{lt-ltb, le-ltb}
use Rattle.spec_machine.specs.File.{program_of}
use Rattle.state_words.proofs.Totals.{frames_of_lem}
use Rattle.fit_frames.proofs.Files.{laid}
use Rattle.fit_state.specs.Meaning.{over_is}
use Rattle.fit_state.proofs.Values.{holds_count}
use Rattle.fit_state.proofs.Lists.{activation_unknown, activation_wrong, activation_whole}
use Rattle.fit_state.proofs.activation_fits.Goals as goal

pub returns-then-function_count-f-clause-value : goal.returns-then-function_count-f-clause-value
unfolding program_of
returns-then-function_count-f-clause-value c = let a = c.args in let s = a.parts.now.file.now in sym (activation_unknown (program_of s) (over_is a.over) a.m.now a.place a.high c.activation_word-f.result c.activation_word-k.result c.activation_word-v.result c.activation_word-f.ensures c.activation_word-k.ensures c.activation_word-v.ensures (le-ltb _ _ (rw c.function_count.ensures.0 at c.if-function_count-f.true)))

pub returns-then-v-wide-clause-value : goal.returns-then-v-wide-clause-value
returns-then-v-wide-clause-value c = let a = c.args in let s = a.parts.now.file.now in sym (activation_wrong (program_of s) (over_is a.over) a.m.now a.place a.high c.activation_word-f.result c.activation_word-k.result c.activation_word-v.result c.activation_word-f.ensures c.activation_word-k.ensures c.activation_word-v.ensures (holds_count s a.parts.now.passed c.activation_word-f.result (rw c.function_count.ensures.0 at c.if-function_count-f.false) a.m.now a.place c.activation_word-v.result (λ e. c.if-v-wide.true (e ∙ sym (c.wide.ensures.0 ∙ c.vars_of.ensures)))))

pub overflow_sub-activation : goal.overflow_sub-activation
overflow_sub-activation c = omega (arith, c.requires.room.2, frames_of_lem c.args.m.now c.args.place c.activation_word-k.result c.activation_word-k.ensures)

pub invariant_of-activation-clause-few_variables : goal.invariant_of-activation-clause-few_variables
invariant_of-activation-clause-few_variables c = omega (arith, c.if-v-wide.false, c.wide.ensures.0, c.vars_of.ensures, (laid c.args.parts.now.file.now c.args.parts.now.passed).vars c.activation_word-f.result (rw c.function_count.ensures.0 at c.if-function_count-f.false))

pub invariant_of-activation-clause-few_frames : goal.invariant_of-activation-clause-few_frames
invariant_of-activation-clause-few_frames c = omega (arith, c.requires.room.2, c.requires.room.3, frames_of_lem c.args.m.now c.args.place c.activation_word-k.result c.activation_word-k.ensures)

pub returns-clause-value : goal.returns-clause-value
unfolding program_of
returns-clause-value c = let a = c.args in let s = a.parts.now.file.now in rw (c.part-part.ensures.0, c.part-part.ensures.1) at c.activation_with.ensures.value ∙ sym (activation_whole (program_of s) (over_is a.over) a.m.now a.place a.high c.activation_word-f.result c.activation_word-k.result c.activation_word-v.result c.activation_word-f.ensures c.activation_word-k.ensures c.activation_word-v.ensures (lt-ltb _ _ (rw c.function_count.ensures.0 at c.if-function_count-f.false)) (omega (arith, c.requires.room.2, frames_of_lem a.m.now a.place c.activation_word-k.result c.activation_word-k.ensures)))
