-- The fields of the records: 12 bytes each, with a mark of two bytes first.
use Rattle.std.specs.Prelude.{List, ℕ, ◌+◌, ◌*◌, get_or}
use Rattle.records.specs.Bytes.{u16_at, u32_at}

-- the mark of record k
unfoldable pub mark_at : List ℕ → ℕ → ℕ
mark_at s k = u16_at s (12 * k)

-- the header's function count, F
unfoldable pub functions : List ℕ → ℕ
functions s = u16_at s 2

-- the header's node count, N
unfoldable pub nodes : List ℕ → ℕ
nodes s = u32_at s 4

-- the header's edition
unfoldable pub edition_of : List ℕ → ℕ
edition_of s = get_or s 8 0

-- the result type of function f, whose record is record 1 + f
unfoldable pub result_of : List ℕ → ℕ → ℕ
result_of s f = get_or s (12 * (1 + f) + 2) 0

-- its parameter count, p
unfoldable pub params_of : List ℕ → ℕ → ℕ
params_of s f = get_or s (12 * (1 + f) + 3) 0

-- its variable count, v
unfoldable pub vars_of : List ℕ → ℕ → ℕ
vars_of s f = get_or s (12 * (1 + f) + 4) 0

-- its mask of bool parameters
unfoldable pub mask_of : List ℕ → ℕ → ℕ
mask_of s f = get_or s (12 * (1 + f) + 5) 0

-- its part's node count
unfoldable pub count_of : List ℕ → ℕ → ℕ
count_of s f = u32_at s (12 * (1 + f) + 8)

-- the kind of node i of a part t
unfoldable pub kind_at : List ℕ → ℕ → ℕ
kind_at t i = get_or t (12 * i + 2) 0

-- its field a
unfoldable pub a_at : List ℕ → ℕ → ℕ
a_at t i = get_or t (12 * i + 3) 0

-- its field b
unfoldable pub b_at : List ℕ → ℕ → ℕ
b_at t i = u32_at t (12 * i + 4)

-- its size
unfoldable pub size_at : List ℕ → ℕ → ℕ
size_at t i = u32_at t (12 * i + 8)
