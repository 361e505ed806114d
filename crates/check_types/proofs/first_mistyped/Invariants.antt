use mathlib.Core.Path.{◌≡◌}
use lib.ListN.{length}
use Rattle.spec_language.specs.Nodes.{mistyped}
use Rattle.records.proofs.Loops.{Below}
use Rattle.check_types.specs.Types.{NodesTyped}
use Rattle.check_types.proofs.first_mistyped.Given as goal

abbrev pub invariant-loop-i : goal.invariant-loop-i
invariant-loop-i l = record {
  right : Below (mistyped l.file l.f l.part l.n) l.i;
  typed : NodesTyped l.file l.f l.part l.n l.i l.types;
  room : length l.types ≡ 4096;
}
