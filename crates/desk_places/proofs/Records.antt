-- In a file whose parts lie in it, every record is located as what it is.
use mathlib.Core.Path.{◌≡◌, refl, ap, ◌∙◌}
use mathlib.Core.List.{List}
use Prim.Native.Nat.{ℕ, ◌+◌, ◌*◌, ◌-◌, ◌/◌, ◌≤◌, ◌<◌}
use native.Mathlib.Omega.{arith}
use lib.ListN.{get_or, length}
use borrow.Author.Tests.{ne_eqb, le-ltb, le-leb, lt-leb}
use Rattle.records.specs.Fields.{functions, count_of, kind_at}
use Rattle.records.specs.Parts.{start_of, part_of, Laid}
use Rattle.records.proofs.Loops.{Below}
use Rattle.records.proofs.PartWalks.{part-byte}
use Rattle.spec_language.proofs.Facts.{sum_more}
use Rattle.desk_places.specs.Located.{place_of}
use Rattle.desk_places.specs.declared.Place.TheVariants.{Header, Function, Node}
use Rattle.desk_places.proofs.Holding.{Ends, held}

pub header_located : (s : List ℕ) → place_of s 0 ≡ Header
unfolding place_of
header_located s = refl

-- a record that lies in the file is one of its whole records
whole : (n k : ℕ) → 12 * (1 + k) ≤ n → k < n / 12
whole n k h = omega arith

module _ (s : List ℕ) (g : Laid s) (f : ℕ) (l : f < functions s) where
  pub function_located : place_of s (1 + f) ≡ Function f
  unfolding place_of
  function_located =
      let h : 12 * (1 + (1 + f)) ≤ length s = omega (arith, g.heads) in
      let e : 1 + f - 1 ≡ f = omega arith in
      rw (ne_eqb (1 + f) 0 (λ z. omega arith), lt-leb (length s / 12) (1 + f) (whole (length s) (1 + f) h), le-leb (1 + f) (functions s) (omega arith), e)

  -- the kind of a node of the part is that of its record
  kind_same : (i : ℕ) → i < count_of s f → kind_at s (start_of s f + i) ≡ kind_at (part_of s f) i
  unfolding kind_at
  kind_same i h =
      let e : 12 * (start_of s f + i) + 2 ≡ 12 * start_of s f + (12 * i + 2) = omega arith in
      ap (λ (k : ℕ). get_or s k 0) e ∙ rw (part-byte s f (12 * i + 2) (omega arith))

  earlier : (i : ℕ) → Below (Ends s (start_of s f + i)) f
  unfolding start_of
  earlier i j h = le-ltb (start_of s f + i) (start_of s j + count_of s j) (omega (arith, sum_more s j f h))

  past : functions s < start_of s f
  unfolding start_of
  past = omega arith

  pub node_located : (i : ℕ) → i < count_of s f → place_of s (start_of s f + i) ≡ Node f i (kind_at (part_of s f) i)
  unfolding place_of
  node_located i h =
      let k = start_of s f + i in
      let w : 12 * (1 + k) ≤ length s = omega (arith, g.fits f l) in
      let e : k - start_of s f ≡ i = omega arith in
      rw (
        ne_eqb k 0 (λ z. omega (arith, past)),
        lt-leb (length s / 12) k (whole (length s) k w),
        lt-leb k (functions s) (omega (arith, past)),
        ← held s k f (start_of s f) (count_of s f) refl refl (kind_at s k) refl l (earlier i) (omega arith),
        e,
        kind_same i h,
      )
