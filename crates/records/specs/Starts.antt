-- A table of where the parts of a file start.
use Rattle.std.specs.Prelude.{◌≡◌, List, ℕ, ◌*◌, ◌<◌, get_or}
use Rattle.records.specs.Fields.{functions}
use Rattle.records.specs.Parts.{start_of, Laid}

-- the first byte of each function's part
abbrev pub Starts : List ℕ → List ℕ → Type 0
Starts s table = Laid s × ((g : ℕ) → g < functions s → get_or table g 0 ≡ 12 * start_of s g)
