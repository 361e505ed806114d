use Rattle.check_file.proofs.Passing.{Cleared}
use Rattle.records.specs.Parts.{start_of}
use mathlib.Core.Path.{◌≡◌}
use lib.ListN.{length}
use Prim.Native.Nat.{◌-◌, ◌≤◌}
use Rattle.check_file.proofs.sizes.parts_floor.Given as goal

abbrev pub invariant-loop-f : goal.invariant-loop-f
invariant-loop-f l = (l.f ≤ l.functions) × (l.start ≡ start_of l.file l.f) × ((length l.codes ≡ length l.initial.codes) × (length l.reads ≡ length l.initial.reads) × (length l.sets ≡ length l.initial.sets)) × Cleared l.file l.f l.least × (7 ≤ l.least) × (l.least ≤ 15)
