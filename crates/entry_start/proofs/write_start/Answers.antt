use lib.ListN.{set}
use Prim.Native.Nat.{ℕ}
use mathlib.Core.List.{List}
use mathlib.Core.Path.{ap}
use Rattle.entry_start.proofs.Starts.{start_words}
use Rattle.entry_start.proofs.write_start.Goals as goal

pub returns : goal.returns
returns c = start_words c.args.m.now _ c.args.n c.requires.0 c.requires.1 (ap (λ (l : List ℕ). set l 0 1) c.zero_at.ensures)
