use Rattle.texts.proofs.Putting.{Putting}
use Rattle.texts.proofs.Text.put.Given as goal

abbrev pub invariant-loop-b : goal.invariant-loop-b
invariant-loop-b l = Putting l.initial.self.bytes l.initial.self.used l.text l.self.bytes l.self.used l.b-index
