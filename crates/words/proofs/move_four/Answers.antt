use native.Mathlib.Omega.{arith}
use mathlib.Core.Path.{◌∙◌}
use Rattle.words.proofs.Moves.{four_at}
use Rattle.words.proofs.move_four.Goals as goal

pub returns : goal.returns
returns c = let a = c.args in
    c.put_four-2.ensures
    ∙ rw (c.put_four.ensures, four_at a.m.now a.from (omega arith))
