-- Question 9 means that every child and every body is of the sort that its position wants.
use mathlib.Core.Path.{◌≡◌, refl, sym}
use mathlib.Core.Bool.{Bool, true, false, ◌&&◌, ◌||◌}
use mathlib.Core.List.{List, [], ◌∷◌}
use Prim.Native.Nat.{ℕ, zero, suc, ◌+◌, ◌-◌, ◌≤◌, ◌<◌}
use native.Mathlib.Omega.{arith}
use native.Mathlib.Nat.{not-suc-le-zero}
use native.Mathlib.Decide.{dec_lt}
use lib.Dec.{eqb}
use lib.ListN.{length}
use borrow.Author.Tests.{eqb-true, eqb-false, eq-eqb}
use Rattle.varset.specs.Lowest.{pick}
use Rattle.records.proofs.Children.{length-walk}
use Rattle.records.specs.Fields.{functions, count_of, kind_at, size_at}
use Rattle.records.specs.Parts.{part_of}
use Rattle.records.specs.Children.{arity_at, children}
use Rattle.records.proofs.Bools.{or_false_left, or_false_right}
use Rattle.spec_language.specs.Sorts.{differ, is_expression, wants_expression, wrong_sort}
use Rattle.spec_language.specs.Nodes.{wrong_child, some, misplaced}
use Rattle.spec_language.proofs.Facts.{sized_is}
use Rattle.spec_language.proofs.Accept.{Accepted, parts}
use Rattle.spec_language.proofs.Tiles.{Tiles, none, more, Sizes, tiled, Each}
use Rattle.spec_language.proofs.Typings.{nth}

-- the nodes of tiles lie below their end
tiles_below : {size : ℕ → ℕ} {hi lo : ℕ} {cs : List ℕ} (i : ℕ) → hi ≤ i → Tiles size hi lo cs → Each (λ c. c < i) cs
tiles_below i l none = tt
tiles_below i l (more a b z w) = (omega arith, tiles_below i (omega arith) w)

pub each_nth : (Q : ℕ → Type 0) (cs : List ℕ) → Each Q cs → (k : ℕ) → k < length cs → Q (nth k cs)
unfolding nth
each_nth Q [] e k h = absurd (not-suc-le-zero h)
each_nth Q (c ∷ cs) e k h = go (eqb k (length cs)) refl (each_nth Q cs e.1 k)
  where
    go : (b : Bool) → eqb k (length cs) ≡ b → (k < length cs → Q (nth k cs)) → Q (pick b c (nth k cs))
    go true q r = e.0
    go false q r = let n : k ≡ length cs → ⊥ = eqb-false k (length cs) q in r (omega arith)

-- every size of an accepted file's parts is right
pub sizes : (s : List ℕ) → Accepted s → (f : ℕ) → f < functions s → Sizes (part_of s f) (count_of s f)
sizes s h f l i p = sized_is (part_of s f) (count_of s f) i (h.eight f i l p)

-- a child stands below its parent
pub child_below : (t : List ℕ) (n : ℕ) → Sizes t n → (i k : ℕ) → i < n → k < arity_at t i → nth k (children t i) < i
unfolding children
child_below t n ok i k p q =
    each_nth (λ c. c < i) (children t i) (tiles_below i (omega arith) (tiled t n ok i p)) k (rw (length-walk (size_at t) (arity_at t i) (i - 1)) q)

some-none : (p : ℕ → Bool) (n : ℕ) → some p n ≡ false → (q : ℕ) → q < n → p q ≡ false
unfolding some
some-none p zero e q h = absurd (not-suc-le-zero h)
some-none p (suc n) e q h = go (λ l. some-none p n (or_false_right (p n) _ e) q l) (dec_lt q n)
  where
    go : (q < n → p q ≡ false) → Dec (q < n) → p q ≡ false
    go r (yes l) = r l
    go r (no l) = let m : q ≡ n = omega arith in rw m (or_false_left (p n) _ e)

right_child : (t : List ℕ) (kind : ℕ) (cs : List ℕ) (k : ℕ) → k < length cs → wrong_child t kind cs (nth k cs) ≡ false → wrong_sort kind k (kind_at t (nth k cs)) ≡ false
unfolding wrong_child nth
right_child t kind [] k h e = absurd (not-suc-le-zero h)
right_child t kind (c ∷ cs) k h e = go (eqb k (length cs)) refl e (right_child t kind cs k)
  where
    go : (b : Bool) → eqb k (length cs) ≡ b
        → ((eqb (pick b c (nth k cs)) c && wrong_sort kind (length cs) (kind_at t c)) || wrong_child t kind cs (pick b c (nth k cs))) ≡ false
        → (k < length cs → wrong_child t kind cs (nth k cs) ≡ false → wrong_sort kind k (kind_at t (nth k cs)) ≡ false)
        → wrong_sort kind k (kind_at t (pick b c (nth k cs))) ≡ false
    go true q z r = rw (eqb-true k (length cs) q) (rw (eq-eqb c c refl) at (or_false_left (eqb c c && wrong_sort kind (length cs) (kind_at t c)) _ z))
    go false q z r =
        let n : k ≡ length cs → ⊥ = eqb-false k (length cs) q in
        r (omega arith) (or_false_right (eqb (nth k cs) c && wrong_sort kind (length cs) (kind_at t c)) _ z)

same_sort : (a b : Bool) → differ a b ≡ false → a ≡ b
unfolding differ
same_sort true true e = refl
same_sort true false e = e
same_sort false b e = sym e

-- the body is a statement
pub body_placed : (t : List ℕ) (n : ℕ) → 1 ≤ n → ((i : ℕ) → i < n → misplaced t n i ≡ false) → is_expression (kind_at t (n - 1)) ≡ false
unfolding misplaced
body_placed t n o h =
    let a = or_false_left (eqb (1 + (n - 1)) n && is_expression (kind_at t (n - 1))) _ (h (n - 1) (omega arith)) in
    let q : 1 + (n - 1) ≡ n = omega arith in
    rw (eq-eqb (1 + (n - 1)) n q) at a

-- child k of node i is an expression exactly where its position wants one
pub child_placed : (t : List ℕ) (n : ℕ) → Sizes t n → ((i : ℕ) → i < n → misplaced t n i ≡ false)
    → (i k : ℕ) → i < n → k < arity_at t i → is_expression (kind_at t (nth k (children t i))) ≡ wants_expression (kind_at t i) k
unfolding misplaced wrong_sort children
child_placed t n ok h i k p q =
    let c = nth k (children t i) in
    let b = child_below t n ok i k p q in
    let a = or_false_right (eqb (1 + c) n && is_expression (kind_at t c)) _ (h c (omega arith)) in
    let w = some-none (λ j. wrong_child t (kind_at t j) (children t j) c) n a i p in
    let m : k < length (children t i) = rw (length-walk (size_at t) (arity_at t i) (i - 1)) q in
    same_sort (is_expression (kind_at t c)) (wants_expression (kind_at t i) k) (right_child t (kind_at t i) (children t i) k m w)

module _ (s : List ℕ) (h : Accepted s) (f : ℕ) (l : f < functions s) where
  abbrev t : List ℕ
  t = part_of s f

  pub body_sort : is_expression (kind_at t (count_of s f - 1)) ≡ false
  body_sort = body_placed t (count_of s f) ((parts s h).some f l) (λ i p. h.nine f i l p)

  pub child_sort : (i k : ℕ) → i < count_of s f → k < arity_at t i → is_expression (kind_at t (nth k (children t i))) ≡ wants_expression (kind_at t i) k
  child_sort = child_placed t (count_of s f) (sizes s h f l) (λ i p. h.nine f i l p)
