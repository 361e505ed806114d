use lib.Dec.{lit≤}
use mathlib.Core.Logic.{inl, inr}
use mathlib.Core.Path.{sym, ◌∙◌}
use native.Mathlib.Omega.{arith}
use borrow.Author.Rules.{rules}
use Rattle.spec_machine.specs.File.{program_of}
use Rattle.check_summary.proofs.Rooms.{table_room}
use Rattle.fit_frames.proofs.Files.{laid}
use Rattle.fit_state.proofs.Entries.{running_in}
use Rattle.fit_state.proofs.Rests.{fit_rest, fit_not}
use Rattle.fit_state.proofs.fits.Goals as goal

pub returns-then-not-entry_fits : goal.returns-then-not-entry_fits
returns-then-not-entry_fits c = let a = c.args in λ s R e w n. sym (fit_not (program_of a.file.now) a.m.now s R e w n (λ i. (c.shared_slice_known-2-1.given i).fits) (sym (c.if-not-entry_fits.ensures a.file.now c.requires.0 s R e w)))

pub returns-then-m-ne-TAG_RUNNING : goal.returns-then-m-ne-TAG_RUNNING
returns-then-m-ne-TAG_RUNNING c = let a = c.args in λ s R e w n. sym (fit_rest (program_of a.file.now) a.m.now s R e w n (λ i. (c.shared_slice_known-2-1.given i).fits) c.if-m-ne-TAG_RUNNING.true ∙ sym (c.if-not-entry_fits.ensures a.file.now c.requires.0 s R e w))

pub function_count-functions-requires : goal.function_count-functions-requires
function_count-functions-requires c = let h = (laid _ c.requires.0).heads in omega arith

pub table_fits-requires-clause-file : goal.table_fits-requires-clause-file
table_fits-requires-clause-file c = running_in c.args.file.now c.args.m.now c.requires.0 c.requires.1 c.requires.2 c.if-m-ne-TAG_RUNNING.false (c.if-not-entry_fits.ensures c.args.file.now c.requires.0 c.requires.2.state c.requires.2.rest c.requires.2.held c.requires.2.within)

pub table_fits-requires-clause-room : goal.table_fits-requires-clause-room
table_fits-requires-clause-room c = (table_room c.args.file.now 32 (laid _ c.requires.0) (inl (search rules)), lit≤ tt)

pub apart_fits-requires-clause-file : goal.apart_fits-requires-clause-file
apart_fits-requires-clause-file c = running_in c.args.file.now c.args.m.now c.requires.0 c.requires.1 c.requires.2 c.if-m-ne-TAG_RUNNING.false (c.if-not-entry_fits.ensures c.args.file.now c.requires.0 c.requires.2.state c.requires.2.rest c.requires.2.held c.requires.2.within)

pub apart_fits-requires-clause-room : goal.apart_fits-requires-clause-room
apart_fits-requires-clause-room c = (table_room c.args.file.now 256 (laid _ c.requires.0) (inl (search rules)), lit≤ tt)

pub apart_fits-requires-then-file-functions-3-clause-file : goal.apart_fits-requires-then-file-functions-3-clause-file
apart_fits-requires-then-file-functions-3-clause-file c = running_in c.args.file.now c.args.m.now c.requires.0 c.requires.1 c.requires.2 c.if-m-ne-TAG_RUNNING.false (c.if-not-entry_fits.ensures c.args.file.now c.requires.0 c.requires.2.state c.requires.2.rest c.requires.2.held c.requires.2.within)

pub apart_fits-requires-then-file-functions-3-clause-room : goal.apart_fits-requires-then-file-functions-3-clause-room
apart_fits-requires-then-file-functions-3-clause-room c = (table_room c.args.file.now 1024 (laid _ c.requires.0) (inl (search rules)), lit≤ tt)

pub apart_fits-requires-2-clause-file : goal.apart_fits-requires-2-clause-file
apart_fits-requires-2-clause-file c = running_in c.args.file.now c.args.m.now c.requires.0 c.requires.1 c.requires.2 c.if-m-ne-TAG_RUNNING.false (c.if-not-entry_fits.ensures c.args.file.now c.requires.0 c.requires.2.state c.requires.2.rest c.requires.2.held c.requires.2.within)

pub apart_fits-requires-2-clause-room : goal.apart_fits-requires-2-clause-room
apart_fits-requires-2-clause-room c = (table_room c.args.file.now 4096 (laid _ c.requires.0) (inr (lit≤ tt)), lit≤ tt)
