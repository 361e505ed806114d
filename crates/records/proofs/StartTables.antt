-- The table of where parts start, filled from the first function on, and what it says of a part.
use mathlib.Core.Path.{◌≡◌, ◌∙◌}
use mathlib.Core.List.{List}
use Prim.Native.Nat.{ℕ, ◌+◌, ◌*◌, ◌-◌, ◌≤◌, ◌<◌}
use native.Mathlib.Omega.{arith}
use native.Mathlib.Decide.{ℕ_discrete}
use lib.ListN.{length, get_or, set, take, drop}
use lib.Seq.{get_or-set_same, get_or-set_other}
use Rattle.records.specs.Fields.{functions, count_of}
use Rattle.records.specs.Parts.{start_of, part_of}
use Rattle.records.specs.Starts.{Starts}

-- of the first n functions
abbrev pub StartsTo : List ℕ → List ℕ → ℕ → Type 0
StartsTo s table n = (g : ℕ) → g < n → get_or table g 0 ≡ 12 * start_of s g

pub starts_more : (s table : List ℕ) (n start : ℕ) → start ≡ 12 * start_of s n → n < length table → StartsTo s table n → StartsTo s (set table n start) (n + 1)
starts_more s table n start e l h g p = go (ℕ_discrete g n)
  where
    go : Dec (g ≡ n) → get_or (set table n start) g 0 ≡ 12 * start_of s g
    go (yes q) = rw (q, get_or-set_same table n start 0 l, e)
    go (no q) = get_or-set_other table n g start 0 q ∙ h g (omega arith)

-- a function's place in the table, by its number
pub start_at : (s table : List ℕ) (g r : ℕ) → Starts s table → g < functions s → r ≡ g → get_or table r 0 ≡ 12 * start_of s g
start_at s table g r h k e = rw e (h.1 g k)

-- where a part lies
pub part_laid : (s table : List ℕ) (g st n : ℕ) → Starts s table → g < functions s → st ≡ get_or table g 0 → n ≡ count_of s g
    → (st + 12 * n ≤ length s) × (1 ≤ n) × (n ≤ 4096)
part_laid s table g st n h k e d =
    let a = h.1 g k in
    (omega (arith, a, e, d, h.0.fits g k), omega (arith, d, h.0.some g k), omega (arith, d, h.0.small g k))

-- a part, cut out of the file
pub part_cut : (s : List ℕ) (f : ℕ) {start n : ℕ} → start ≡ 12 * start_of s f → n ≡ count_of s f → take (start + 12 * n - start) (drop start s) ≡ part_of s f
unfolding part_of
part_cut s f {start} {n} a b = let e : start + 12 * n - start ≡ 12 * count_of s f = omega (arith, b) in rw (e, a)
