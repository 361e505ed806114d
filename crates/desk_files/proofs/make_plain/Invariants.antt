use Rattle.std.proofs.Common.{◌≡◌, length}
use Rattle.desk_files.specs.Names.{Plain}
use Rattle.desk_files.proofs.make_plain.Given as goal

abbrev pub invariant-loop-i : goal.invariant-loop-i
invariant-loop-i l = (length l.name ≡ length l.initial.name) × Plain l.name l.i
