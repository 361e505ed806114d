-- The node that is named is the last one on the way to the read that can pass without giving a value.
use mathlib.Core.Path.{◌≡◌, refl}
use mathlib.Core.Bool.{Bool, true, false, ◌&&◌}
use mathlib.Core.List.{List}
use Prim.Native.Nat.{ℕ, zero, suc, ◌≤◌, ◌<◌, zero-le}
use native.Mathlib.Nat.{not-suc-le-zero}
use native.Mathlib.Decide.{dec_lt}
use native.Mathlib.Omega.{arith}
use lib.Dec.{eqb}
use borrow.Author.Tests.{eqb-true}
use Rattle.varset.specs.Lowest.{pick}
use Rattle.records.specs.Fields.{kind_at}
use Rattle.records.proofs.Bools.{and_left, and_right, clash}
use Rattle.spec_language.specs.Statements.{prior, last}
use Rattle.desk_ways.specs.Ways.{named_node, on_way, gives, uneven, gap_at, or_earlier, last_gap}
use Rattle.desk_ways.specs.declared.Way.{Way}
use Rattle.desk_ways.specs.declared.Way.TheVariants.{Straight, First, Second, Loop, Unknown}

-- what a way says of node k, which it names
abbrev pub Says : List ℕ → ℕ → ℕ → Way → Type 0
Says t x k Straight = Unit {0}
Says t x k (First j) = (j ≡ k) × (kind_at t k ≡ 10) × (gives t x (prior t (last k)) ≡ false) × (gives t x (last k) ≡ true)
Says t x k (Second j) = (j ≡ k) × (kind_at t k ≡ 10) × (gives t x (prior t (last k)) ≡ true) × (gives t x (last k) ≡ false)
Says t x k (Loop j) = (j ≡ k) × (kind_at t k ≡ 11) × (gives t x (last k) ≡ true)
Says t x k Unknown = ⊥

pub gap_says : (t : List ℕ) (x k : ℕ) → Says t x k (gap_at t x k)
unfolding gap_at uneven
gap_says t x k = go (eqb (kind_at t k) 10) refl
  where
    branches : (a b : Bool) → kind_at t k ≡ 10 → gives t x (prior t (last k)) ≡ a → gives t x (last k) ≡ b → Says t x k (uneven a b k)
    branches true true e p q = tt
    branches true false e p q = (refl, e, p, q)
    branches false true e p q = (refl, e, p, q)
    branches false false e p q = tt

    turn : (b : Bool) → (eqb (kind_at t k) 11 && gives t x (last k)) ≡ b → Says t x k (pick b (Loop k) Straight)
    turn true e = (refl, eqb-true (kind_at t k) 11 (and_left _ _ e), and_right (eqb (kind_at t k) 11) _ e)
    turn false e = tt

    go : (b : Bool) → eqb (kind_at t k) 10 ≡ b
        → Says t x k (pick b (uneven (gives t x (prior t (last k))) (gives t x (last k)) k) (pick (eqb (kind_at t k) 11 && gives t x (last k)) (Loop k) Straight))
    go true e = branches (gives t x (prior t (last k))) (gives t x (last k)) (eqb-true (kind_at t k) 10 e) refl refl
    go false e = turn (eqb (kind_at t k) 11 && gives t x (last k)) refl

-- a node that is not named gives a value in both branches or in neither, and none in the body of a while
module _ (t : List ℕ) (x k : ℕ) (h : gap_at t x k ≡ Straight) where
  pub even_if : kind_at t k ≡ 10 → gives t x (prior t (last k)) ≡ gives t x (last k)
  unfolding gap_at uneven
  even_if e = go (gives t x (prior t (last k))) (gives t x (last k)) (rw e at h)
    where
      go : (a b : Bool) → uneven a b k ≡ Straight → a ≡ b
      go true true q = refl
      go true false q = let z : ◌≡◌ {A = ℕ} 0 1 = cc in absurd (omega arith)
      go false true q = let z : ◌≡◌ {A = ℕ} 0 1 = cc in absurd (omega arith)
      go false false q = refl

  pub even_while : kind_at t k ≡ 11 → gives t x (last k) ≡ false
  unfolding gap_at
  even_while e = go (gives t x (last k)) (rw e at h)
    where
      go : (b : Bool) → pick b (Loop k) Straight ≡ Straight → b ≡ false
      go true q = let z : ◌≡◌ {A = ℕ} 0 1 = cc in absurd (omega arith)
      go false q = refl

-- no node from k up to m that stands on the way to i can pass without giving x a value where it can give one
abbrev pub Even : List ℕ → ℕ → ℕ → ℕ → ℕ → ℕ → Type 0
Even t n x i k m = (j : ℕ) → k ≤ j → j < m → on_way t n x i j ≡ true → gap_at t x j ≡ Straight

-- node k is the last of m nodes that can
pub record NearestGap (t : List ℕ) (n x i m k : ℕ) (w : Way) : Type 0 where
  pub below : k < m
  pub on : on_way t n x i k ≡ true
  pub gap : gap_at t x k ≡ w
  pub later : Even t n x i (suc k) m

abbrev pub Nearest : List ℕ → ℕ → ℕ → ℕ → ℕ → Way → Type 0
Nearest t n x i m Straight = Even t n x i 0 m
Nearest t n x i m (First k) = NearestGap t n x i m k (First k)
Nearest t n x i m (Second k) = NearestGap t n x i m k (Second k)
Nearest t n x i m (Loop k) = NearestGap t n x i m k (Loop k)
Nearest t n x i m Unknown = ⊥

module _ (t : List ℕ) (n x i : ℕ) where
  even_more : (k m : ℕ) → Even t n x i k m → (on_way t n x i m ≡ true → gap_at t x m ≡ Straight) → Even t n x i k (suc m)
  even_more k m r h j a l o = go (dec_lt j m)
    where
      go : Dec (j < m) → gap_at t x j ≡ Straight
      go (yes b) = r j a b o
      go (no b) = let z : j ≡ m = omega arith in rw z (h (rw z at o))

  -- one node more that cannot
  more : (m : ℕ) (w : Way) → (on_way t n x i m ≡ true → gap_at t x m ≡ Straight) → Nearest t n x i m w → Nearest t n x i (suc m) w
  more m Straight h r = even_more 0 m r h
  more m (First k) h r = record { below = omega (arith, r.below); on = r.on; gap = r.gap; later = even_more (suc k) m r.later h }
  more m (Second k) h r = record { below = omega (arith, r.below); on = r.on; gap = r.gap; later = even_more (suc k) m r.later h }
  more m (Loop k) h r = record { below = omega (arith, r.below); on = r.on; gap = r.gap; later = even_more (suc k) m r.later h }
  more m Unknown h r = r

  -- and one that can
  here : (m k : ℕ) (w : Way) → k ≡ m → on_way t n x i m ≡ true → gap_at t x m ≡ w → NearestGap t n x i (suc m) k w
  here m k w z o q = record { below = omega arith; on = rw z o; gap = rw z q; later = λ j a b. absurd (omega arith) }

  -- the way found among m nodes is that of the last of them that can pass so
  pub last-is : (m : ℕ) → Nearest t n x i m (last_gap t n x i m)
  unfolding last_gap or_earlier
  last-is zero = λ j a b. absurd (not-suc-le-zero b)
  last-is (suc m) = go (on_way t n x i m) refl (gap_at t x m) refl (gap_says t x m) (last-is m)
    where
      w : Way
      w = last_gap t n x i m

      go : (b : Bool) → on_way t n x i m ≡ b → (g : Way) → gap_at t x m ≡ g → Says t x m g → Nearest t n x i m w → Nearest t n x i (suc m) (or_earlier (pick b g Straight) w)
      go false e g q s r = more m w (λ o. clash _ o e) r
      go true e Straight q s r = more m w (λ o. q) r
      go true e (First j) q s r = here m j (First j) s.0 e q
      go true e (Second j) q s r = here m j (Second j) s.0 e q
      go true e (Loop j) q s r = here m j (Loop j) s.0 e q
      go true e Unknown q s r = absurd s

  pub named_below : (w : Way) → w ≡ last_gap t n x i i → named_node w ≤ i
  named_below w e = go w (rw (← e) at (last-is i))
    where
      go : (v : Way) → Nearest t n x i i v → named_node v ≤ i
      go Straight r = zero-le
      go (First k) r = omega (arith, r.below)
      go (Second k) r = omega (arith, r.below)
      go (Loop k) r = omega (arith, r.below)
      go Unknown r = zero-le
