use Rattle.std.proofs.Common.{◌≡◌, ◌+◌, ◌*◌, ◌-◌, ◌≤◌}
use Rattle.records.specs.Parts.{start_of}
use Rattle.desk_places.proofs.start_of.Given as goal

abbrev pub invariant-loop-f : goal.invariant-loop-f
invariant-loop-f l = (l.start ≡ start_of l.file l.f) × (l.start + 4294967296 * (l.functions - l.f) ≤ 1 + l.functions + 4294967296 * l.functions)
