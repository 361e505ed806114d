use Rattle.texts.specs.Room.{Ends, Lent}
use Rattle.desk_lines.proofs.put_functions.Given as goal

abbrev pub invariant-loop-function : goal.invariant-loop-function
invariant-loop-function l = Lent l.initial.out.bytes l.out.bytes × (Ends l.initial.out.bytes.now l.initial.out.used 10 → Ends l.out.bytes.now l.out.used 10)
