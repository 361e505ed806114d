-- Where the part of a function lies.
use Rattle.std.specs.Prelude.{Bool, ◌&&◌, List, ℕ, ◌+◌, ◌/◌, leb, ltb, length}
use Rattle.varset.specs.Lowest.{pick}
use Rattle.records.specs.Fields.{functions, count_of}
use Rattle.records.specs.Parts.{start_of}

-- function f is one of the file's, and its part lies in the file
unfoldable pub part_fits : List ℕ → ℕ → Bool
part_fits s f = ltb f (functions s) && leb (start_of s f + count_of s f) (length s / 12)

-- its first record
unfoldable pub first_record : List ℕ → ℕ → ℕ
first_record s f = pick (part_fits s f) (start_of s f) 0

-- how many nodes it has, 0 where it does not lie in the file
unfoldable pub node_count : List ℕ → ℕ → ℕ
node_count s f = pick (part_fits s f) (count_of s f) 0
