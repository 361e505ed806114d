use Rattle.check_pass.proofs.Calls.{Left}
use Prim.Native.Nat.{◌<◌}
use Rattle.check_pass.proofs.nodes.Node.call_at.Given as goal

abbrev pub invariant-loop-j : goal.invariant-loop-j
invariant-loop-j l = (l.c < l.self.count) × Left l.self.file.now l.self.function l.self.part.now l.self.count l.self.index l.j l.c l.sum l.all.0
