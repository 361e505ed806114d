use Rattle.std.proofs.Common.{◌≡◌, ◌+◌, ◌*◌, ◌-◌, ◌≤◌}
use Rattle.records.specs.Parts.{start_of}
use Rattle.records.proofs.Loops.{Below}
use Rattle.desk_places.proofs.Holding.{Ends}
use Rattle.desk_places.proofs.locate_node.Given as goal

abbrev pub invariant-loop-f : goal.invariant-loop-f
invariant-loop-f l = (l.start ≡ start_of l.file l.f) × (l.start ≤ l.place)
    × (l.start + 4294967296 * (l.functions - l.f) ≤ 1 + l.functions + 4294967296 * l.functions) × Below (Ends l.file l.place) l.f
