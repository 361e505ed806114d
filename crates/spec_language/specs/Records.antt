-- Questions 1 to 6: the file, its header and its function records.
use Rattle.std.specs.Prelude.{Bool, ◌&&◌, List, ℕ, ◌+◌, ◌*◌, ◌%◌, ◌^◌, eqb, leb, ltb, length, get_or}
use Rattle.records.specs.Bytes.{u16_at}
use Rattle.records.specs.Fields.{mark_at, functions, nodes, edition_of, result_of, params_of, vars_of, mask_of, count_of}
use Rattle.records.specs.Parts.{sum_of}
use Rattle.records.specs.Format.{header_mark, function_mark, most_functions, most_nodes, last_edition, most_parameters, most_variables}

-- lo to hi
unfoldable pub within : ℕ → ℕ → ℕ → Bool
within lo hi k = leb lo k && leb k hi

-- 1: is the length a multiple of 12, and at least 36?
unfoldable pub length_ok : List ℕ → Bool
length_ok s = eqb (length s % 12) 0 && leb 36 (length s)

-- 2: "PR", F from 1 to 128, N from 1 to 4,096, edition 0 or 1, three zero bytes
unfoldable pub header_ok : List ℕ → Bool
header_ok s =
    eqb (mark_at s 0) header_mark && (within 1 most_functions (functions s) && (within 1 most_nodes (nodes s)
    && (leb (edition_of s) last_edition && (eqb (get_or s 9 0) 0 && eqb (u16_at s 10) 0))))

-- 3: is the length 12 × (1+F+N)?
unfoldable pub records_ok : List ℕ → Bool
records_ok s = eqb (length s) (12 * (1 + functions s + nodes s))

-- 4: "FN", result 0 to 2, p 0 to 8, v from p to 64, no mask bit from p on, two zero bytes, a count of 1 or more
unfoldable pub function_ok : List ℕ → ℕ → Bool
function_ok s f =
    eqb (mark_at s (1 + f)) function_mark && (leb (result_of s f) 2 && (leb (params_of s f) most_parameters && (within (params_of s f) most_variables (vars_of s f)
    && (ltb (mask_of s f) (2 ^ params_of s f) && (eqb (u16_at s (12 * (1 + f) + 6)) 0 && leb 1 (count_of s f))))))

-- 5: do the part counts sum to N?
unfoldable pub sum_ok : List ℕ → Bool
sum_ok s = eqb (sum_of s (functions s)) (nodes s)

-- 6: has function 0, main, p=0 and result int?
unfoldable pub main_ok : List ℕ → Bool
main_ok s = eqb (params_of s 0) 0 && eqb (result_of s 0) 1
