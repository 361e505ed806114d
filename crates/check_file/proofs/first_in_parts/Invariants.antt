use Rattle.spec_language.specs.Check.{in_part}
use Rattle.records.specs.Search.{first_in}
use Rattle.records.specs.Parts.{start_of}
use lib.ListN.{length}
use mathlib.Core.Path.{◌≡◌}
use Prim.Native.Nat.{◌-◌, ◌≤◌}
use Rattle.check_file.proofs.first_in_parts.Given as goal

abbrev pub invariant-loop-f : goal.invariant-loop-f
invariant-loop-f l = (length l.table ≡ length l.initial.table) × (l.f ≤ l.functions) × (l.start ≡ start_of l.file l.f) × (first_in (in_part l.q l.file) l.functions 0 ≡ first_in (in_part l.q l.file) (l.functions - l.f) l.f)
