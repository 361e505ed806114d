-- Words moved to another place in a list of words.
use Rattle.std.specs.Prelude.{List, ℕ, take, drop, replicate}
use Rattle.words.specs.Blocks.{puts}

-- the w words at a place moved to another one, with zeros left behind
abbrev pub moved : List ℕ → ℕ → ℕ → ℕ → List ℕ
moved l from to w = puts (puts l to 0 (take w (drop from l))) from 0 (replicate w 0)
