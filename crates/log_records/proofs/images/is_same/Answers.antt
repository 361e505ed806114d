use mathlib.Core.Path.{sym, ap, ◌∙◌}
use Prim.Native.Nat.{ℕ}
use lib.Dec.{eqb}
use Rattle.log_records.proofs.Counts.{same_count}
use Rattle.log_records.proofs.images.is_same.Goals as goal

pub returns : goal.returns
returns c = ap (λ (k : ℕ). eqb k 0) (c.differing.ensures.0 0) ∙ sym (same_count c.args.a.now c.args.b.now 0 c.requires.0)
