use lib.ListN.{length, get_or}
use mathlib.Core.Path.{◌≡◌}
use Prim.Native.Nat.{◌≤◌, ◌<◌}
use Rattle.records.specs.Fields.{functions, count_of}
use Rattle.records.specs.Parts.{part_of}
use Rattle.check_summary.specs.Tables.{RowsFilled}
use Rattle.spec_machine.specs.File.{program_of}
use Rattle.spec_image.specs.Decode.{activations_to, held_in}
use Rattle.fit_state.specs.Activations.{callers_fit}
use Rattle.fit_state.specs.Meaning.{frames_to}
use Rattle.fit_state.proofs.callers_fit.Given as goal

abbrev pub invariant-loop-a : goal.invariant-loop-a
invariant-loop-a l = record {
  known : l.g < functions l.parts.file.now;
  top : l.top ≡ held_in l.m l.a;
  room : l.top ≤ 512;
  same : callers_fit (program_of l.parts.file.now) (get_or l.m 14721 0) l.f (activations_to l.m l.n) (frames_to l.m l.high) ≡ callers_fit (program_of l.parts.file.now) (get_or l.m 14721 0) l.g (activations_to l.m l.a) (frames_to l.m l.top);
  length : length l.table ≡ length l.initial.table;
  filled : RowsFilled (part_of l.parts.file.now l.g) l.table (count_of l.parts.file.now l.g);
}
