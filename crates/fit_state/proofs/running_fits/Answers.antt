use lib.ListN.{get_or}
use mathlib.Core.Path.{sym, ◌∙◌}
use Prim.Native.Nat.{◌-◌}
use native.Mathlib.Omega.{arith}
use borrow.Author.Tests.{ltb-true}
use Rattle.spec_machine.specs.File.{program_of}
use Rattle.spec_image.specs.Decode.{activations_in}
use Rattle.state_words.specs.Meaning.{control_is}
use Rattle.state_words.proofs.Totals.{total_last}
use Rattle.fit_frames.proofs.Files.{laid}
use Rattle.fit_state.specs.Activations.{at}
use Rattle.fit_state.specs.Meaning.{frames_to}
use Rattle.fit_state.proofs.Lists.{fit_known, held_last}
use Rattle.fit_state.proofs.Rests.{few, fewer, some, fits_less, fits_more}
use Rattle.fit_state.proofs.running_fits.Goals as goal

pub frames_held-high-requires : goal.frames_held-high-requires
frames_held-high-requires c = (c.requires.file.whole, few c.args.m.now c.requires.file.holds)

pub starts_of-starts-requires : goal.starts_of-starts-requires
starts_of-starts-requires c = laid c.args.file.now c.requires.file.passed

pub overflow_sub-a : goal.overflow_sub-a
overflow_sub-a c = some c.args.m.now c.requires.file.holds c.requires.file.tag

pub activation_fits-requires-clause-room : goal.activation_fits-requires-clause-room
unfolding activations_in
activation_fits-requires-clause-room c = let m = c.args.m.now in let r = c.requires.file in let o = some m r.holds r.tag in (r.whole, omega (arith, few m r.holds, o), omega (arith, c.frames_held-high.ensures, held_last m (get_or m 2 0) o), omega (arith, c.frames_held-high.ensures, fewer m r.holds))

pub activation_fits-requires-clause-table : goal.activation_fits-requires-clause-table
activation_fits-requires-clause-table c = (c.requires.table, λ q. absurd (omega (arith, q, (laid c.args.file.now c.requires.file.passed).few)))

pub returns-then-not-activation_fits : goal.returns-then-not-activation_fits
returns-then-not-activation_fits c = λ s R e w n. let m = c.args.m.now in let r = c.requires.file in let o = some m r.holds r.tag in sym (fits_less (program_of c.args.file.now) m s R e w n (λ i. (c.shared_slice_known-2-1.given i).fits) r.tag r.entry (control_is c.control_of-c.result) c.frames_held-high.result c.control_of-c.ensures c.frames_held-high.ensures o (sym c.if-not-activation_fits.ensures.value))

pub activation_word-f-requires : goal.activation_word-f-requires
activation_word-f-requires c = let m = c.args.m.now in let r = c.requires.file in let o = some m r.holds r.tag in (r.whole, omega (arith, few m r.holds, o), omega arith)

pub activation_word-k-requires : goal.activation_word-k-requires
activation_word-k-requires c = let m = c.args.m.now in let r = c.requires.file in let o = some m r.holds r.tag in (r.whole, omega (arith, few m r.holds, o), omega arith)

pub overflow_sub-high : goal.overflow_sub-high
overflow_sub-high c = let m = c.args.m.now in let r = c.requires.file in let o = some m r.holds r.tag in omega (arith, c.frames_held-high.ensures, total_last m (get_or m 2 0) c.activation_word-k.result o c.activation_word-k.ensures)

pub callers_fit-requires-clause-room : goal.callers_fit-requires-clause-room
unfolding program_of activations_in
callers_fit-requires-clause-room c = let m = c.args.m.now in let r = c.requires.file in let o = some m r.holds r.tag in let t = total_last m (get_or m 2 0) c.activation_word-k.result o c.activation_word-k.ensures in (r.whole, omega (arith, few m r.holds), omega (arith, c.frames_held-high.ensures, t), omega (arith, c.frames_held-high.ensures, fewer m r.holds), ltb-true _ _ (fit_known (program_of c.args.file.now) (at (control_is c.control_of-c.result)) m (get_or m 2 0 - 1) (frames_to m c.frames_held-high.result) c.activation_word-f.result c.activation_word-f.ensures (sym c.if-not-activation_fits.ensures.value)))

pub returns : goal.returns
returns c = λ s R e w n. let m = c.args.m.now in let r = c.requires.file in let o = some m r.holds r.tag in c.callers_fit.ensures ∙ sym (fits_more (program_of c.args.file.now) m s R e w n (λ i. (c.shared_slice_known-2-1.given i).fits) r.tag r.entry (control_is c.control_of-c.result) c.frames_held-high.result c.control_of-c.ensures c.frames_held-high.ensures o c.activation_word-f.result c.activation_word-k.result c.activation_word-f.ensures c.activation_word-k.ensures (omega (arith, c.frames_held-high.ensures, total_last m (get_or m 2 0) c.activation_word-k.result o c.activation_word-k.ensures)) (sym c.if-not-activation_fits.ensures.value))
