use mathlib.Core.Path.{refl, ap, ◌∙◌}
use mathlib.Core.List.{List}
use Prim.Native.Nat.{ℕ, ◌+◌}
use Rattle.words.specs.Blocks.{puts}
use Rattle.words.proofs.Moves.{puts_next}
use Rattle.spec_log.specs.Records.{two, four}
use Rattle.log_records.proofs.put_change.Goals as goal

pub returns : goal.returns
returns c = c.put_u32.ensures ∙ (ap (λ (l : List ℕ). puts l (c.args.at + 2) 0 (four c.args.word)) c.put_u16.ensures ∙ puts_next (two c.args.place) (four c.args.word) c.args.log.now c.args.at (c.args.at + 2) refl)
