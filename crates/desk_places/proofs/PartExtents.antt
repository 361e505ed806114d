-- Where a part lies that fits, and that it has no node where it does not.
use mathlib.Core.Path.{◌≡◌}
use mathlib.Core.Bool.{false, and-false}
use mathlib.Core.List.{List}
use Prim.Native.Nat.{ℕ, ◌+◌, ◌*◌, ◌/◌, ◌≤◌, ◌<◌}
use native.Mathlib.Omega.{arith}
use lib.Dec.{ltb}
use lib.ListN.{length}
use borrow.Author.Tests.{lt-ltb, le-ltb, le-leb, lt-leb}
use Rattle.records.specs.Fields.{functions, count_of}
use Rattle.records.specs.Parts.{start_of}
use Rattle.desk_places.specs.Extents.{part_fits, first_record, node_count}

-- what is said of a start and a count
abbrev pub Lies : List ℕ → ℕ → ℕ → ℕ → Type 0
Lies s f start count = ((start ≡ first_record s f) × (count ≡ node_count s f)) × (12 * (start + count) ≤ length s)

module _ (s : List ℕ) (f : ℕ) where
  absent : part_fits s f ≡ false → Lies s f 0 0
  unfolding first_record node_count
  absent e = ((rw e, rw e), omega arith)

  pub no_function : functions s ≤ f → Lies s f 0 0
  unfolding part_fits
  no_function h = absent (rw (le-ltb f (functions s) h))

  pub no_room : (n : ℕ) → n ≡ length s / 12 → n < start_of s f + count_of s f → Lies s f 0 0
  unfolding part_fits
  no_room n e h = absent (rw (lt-leb (start_of s f + count_of s f) (length s / 12) (omega arith)) (and-false (ltb f (functions s))))

  -- a part starts past the function records
  pub past_functions : (n : ℕ) → n ≤ functions s → n < start_of s f + count_of s f
  unfolding start_of
  past_functions n h = omega arith

  pub lies : (start count : ℕ) → start ≡ start_of s f → count ≡ count_of s f → f < functions s → start + count ≤ length s / 12 → Lies s f start count
  unfolding part_fits first_record node_count
  lies start count a b l h =
      let p : start_of s f + count_of s f ≤ length s / 12 = omega arith in
      let e = le-leb (start_of s f + count_of s f) (length s / 12) p in
      ((rw (lt-ltb f (functions s) l, e, a), rw (lt-ltb f (functions s) l, e, b)), omega arith)
