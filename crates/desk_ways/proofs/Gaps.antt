-- One step of a walk over the nodes before a read.
use mathlib.Core.Path.{◌≡◌, refl, ◌∙◌}
use mathlib.Core.Bool.{Bool, true, false, ◌&&◌}
use mathlib.Core.List.{List}
use Prim.Native.Nat.{ℕ, ◌+◌}
use native.Mathlib.Numerals.{add-one}
use borrow.Author.Tests.{ne_eqb}
use Rattle.varset.specs.Lowest.{pick}
use Rattle.records.specs.Fields.{kind_at}
use Rattle.spec_language.specs.Statements.{prior, last}
use Rattle.spec_language.specs.Scopes.{decl_of, under}
use Rattle.spec_language.specs.Nodes.{some}
use Rattle.desk_ways.specs.Ways.{apart, on_way, gives, uneven, gap_at, or_earlier, last_gap}
use Rattle.desk_ways.specs.declared.Way.{Way}
use Rattle.desk_ways.specs.declared.Way.TheVariants.{Straight, Loop}

-- what node k does to x, by its kind
module _ (t : List ℕ) (x k : ℕ) where
  pub gap_if : (a : Bool) (b : Bool) → kind_at t k ≡ 10 → a ≡ gives t x (prior t (last k)) → b ≡ gives t x (last k) → uneven a b k ≡ gap_at t x k
  unfolding gap_at
  gap_if a b e p q = rw (e, p, q)

  pub gap_while : (b : Bool) → kind_at t k ≡ 11 → b ≡ gives t x (last k) → b ≡ true → Loop k ≡ gap_at t x k
  unfolding gap_at
  gap_while b e q h = rw (e, ← q, h)

  pub no_gap_while : (b : Bool) → kind_at t k ≡ 11 → b ≡ gives t x (last k) → b ≡ false → Straight ≡ gap_at t x k
  unfolding gap_at
  no_gap_while b e q h = rw (e, ← q, h)

  pub gap_none : (kind_at t k ≡ 10 → ⊥) → (kind_at t k ≡ 11 → ⊥) → Straight ≡ gap_at t x k
  unfolding gap_at
  gap_none p q = rw (ne_eqb (kind_at t k) 10 p, ne_eqb (kind_at t k) 11 q)

-- whether node k stands on the way to node i
module _ (t : List ℕ) (n x i k d : ℕ) (e : d ≡ decl_of t n x) where
  pub off_decl : (w : Way) → under t d k ≡ false → Straight ≡ pick (on_way t n x i k) w Straight
  unfolding on_way
  off_decl w u = rw (← e, u)

  pub off_way : (w : Way) → some (apart t k i) n ≡ true → Straight ≡ pick (on_way t n x i k) w Straight
  unfolding on_way
  off_way w q = rw q (go (under t (decl_of t n x) k))
    where
      go : (b : Bool) → Straight ≡ pick (b && false) w Straight
      go true = refl
      go false = refl

  pub on_way_lem : (w : Way) → under t d k ≡ true → some (apart t k i) n ≡ false → w ≡ pick (on_way t n x i k) w Straight
  unfolding on_way
  on_way_lem w u q = rw (← e, u, q)

-- one node more
pub gap_next : (t : List ℕ) (n x i k : ℕ) (gap way next : Way) → gap ≡ pick (on_way t n x i k) (gap_at t x k) Straight → next ≡ or_earlier gap way
    → way ≡ last_gap t n x i k → next ≡ last_gap t n x i (k + 1)
unfolding last_gap
gap_next t n x i k gap way next p q r = q ∙ rw (p, r, add-one k)

pub gap_none_yet : (t : List ℕ) (n x i : ℕ) → Straight ≡ last_gap t n x i 0
unfolding last_gap
gap_none_yet t n x i = refl
