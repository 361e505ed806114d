-- What each answer says of the node that it names, for the variable that node i reads.
use mathlib.Core.Path.{◌≡◌, refl}
use mathlib.Core.Bool.{true, false}
use mathlib.Core.List.{List}
use Prim.Native.Nat.{ℕ, zero, suc, ◌<◌, zero-le}
use native.Mathlib.Nat.{zero-lt-suc}
use Rattle.varset.specs.Sets.{none, less}
use Rattle.records.specs.Fields.{kind_at, b_at}
use Rattle.spec_language.specs.Statements.{prior, last, statement_in, statement_at}
use Rattle.spec_language.specs.Flow.{leaves}
use Rattle.spec_language.proofs.Rules.{leaves_while}
use Rattle.desk_ways.specs.Ways.{on_way, gives, way_to}
use Rattle.desk_ways.specs.declared.Way.{Way}
use Rattle.desk_ways.specs.declared.Way.TheVariants.{Straight, First, Second, Loop}
use Rattle.desk_ways.proofs.LastGaps.{Says, NearestGap, Nearest, gap_says, even_if, even_while, last-is}

-- a while that makes no turn gives no value
no_turn : (t : List ℕ) (k x : ℕ) → 0 < k → kind_at t k ≡ 11 → leaves (statement_at t k) none x ≡ false
unfolding less none
no_turn t k x p e = rw (leaves_while t k none e p)

first_node : (t : List ℕ) (x : ℕ) → leaves (statement_at t 0) none x ≡ false
unfolding leaves statement_at statement_in none
first_node t x = refl

pub while_gives_none : (t : List ℕ) (k x : ℕ) → kind_at t k ≡ 11 → leaves (statement_at t k) none x ≡ false
while_gives_none t zero x e = first_node t x
while_gives_none t (suc k) x e = no_turn t (suc k) x (zero-lt-suc k) e

module _ (t : List ℕ) (n i : ℕ) where
  found : (w : Way) → way_to t n i ≡ w → Nearest t n (b_at t i) i i w
  unfolding way_to
  found w e = rw e at (last-is t n (b_at t i) i i)

  said : {k : ℕ} {w : Way} → NearestGap t n (b_at t i) i i k w → Says t (b_at t i) k w
  said {k} l = rw l.gap at (gap_says t (b_at t i) k)

  -- the first branch of the if named leaves the variable without a value, and the second does not
  pub first_named : (k : ℕ) → way_to t n i ≡ First k
      → (k < i) × (kind_at t k ≡ 10) × (leaves (statement_at t (prior t (last k))) none (b_at t i) ≡ false) × (leaves (statement_at t (last k)) none (b_at t i) ≡ true)
  unfolding gives
  first_named k e = let l = found (First k) e in (l.below, (said l).1, (said l).2, (said l).3)

  pub second_named : (k : ℕ) → way_to t n i ≡ Second k
      → (k < i) × (kind_at t k ≡ 10) × (leaves (statement_at t (prior t (last k))) none (b_at t i) ≡ true) × (leaves (statement_at t (last k)) none (b_at t i) ≡ false)
  unfolding gives
  second_named k e = let l = found (Second k) e in (l.below, (said l).1, (said l).2, (said l).3)

  -- the while named leaves the variable without a value, and its body does not
  pub loop_named : (k : ℕ) → way_to t n i ≡ Loop k
      → (k < i) × (kind_at t k ≡ 11) × (leaves (statement_at t k) none (b_at t i) ≡ false) × (leaves (statement_at t (last k)) none (b_at t i) ≡ true)
  unfolding gives
  loop_named k e = let l = found (Loop k) e in (l.below, (said l).1, while_gives_none t k (b_at t i) (said l).1, (said l).2)

  -- where none is named, each if on the way gives a value in both branches or in neither, and no body of a while gives one
  pub straight_named : way_to t n i ≡ Straight → (k : ℕ) → k < i → on_way t n (b_at t i) i k ≡ true
      → (kind_at t k ≡ 10 → leaves (statement_at t (prior t (last k))) none (b_at t i) ≡ leaves (statement_at t (last k)) none (b_at t i))
      × (kind_at t k ≡ 11 → leaves (statement_at t (last k)) none (b_at t i) ≡ false)
  unfolding gives
  straight_named e k l o =
      let g = found Straight e k zero-le l o in
      (even_if t (b_at t i) k g, even_while t (b_at t i) k g)
