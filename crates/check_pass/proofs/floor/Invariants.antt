use Rattle.varset.specs.Sets.{has}
use Rattle.check_pass.specs.Judged.{Filled}
use Rattle.check_pass.proofs.floor.Given as goal

abbrev pub invariant-loop-i : goal.invariant-loop-i
invariant-loop-i l = Filled l.file l.f l.part l.n (has l.seen.0) l.i l.codes l.reads l.sets
