-- Words that are all zero, and words that are the same.
use mathlib.Core.Path.{◌≡◌, refl, sym, ap, ◌∙◌}
use mathlib.Core.Bool.{Bool, true, false, ◌&&◌, and_assoc, and-true, false≢true}
use mathlib.Core.List.{List, [], ◌∷◌, ◌++◌, append-nil}
use Prim.Native.Nat.{ℕ, zero, suc, ◌+◌, ◌-◌, ◌<◌, ◌≤◌}
use native.Mathlib.Numerals.{add-one}
use native.Mathlib.Omega.{arith}
use lib.Dec.{eqb}
use lib.ListN.{take, drop, length, get_or, replicate, length-drop, take-append-drop}
use lib.Seq.{take_all, take-add, drop-cons, drop-drop, drop-length}
use borrow.Author.Tests.{eq-eqb, ne_eqb, eqb-true}
use Rattle.words.specs.Blocks.{all_zero, eq_words}

-- both of two tests
pub both : (a b : Bool) → (a && b) ≡ true → (a ≡ true) × (b ≡ true)
both true b e = (refl, e)
both false b e = absurd (false≢true e)

pub all_zeros : (l : List ℕ) → all_zero l ≡ true → l ≡ replicate (length l) 0
all_zeros [] h = refl
all_zeros (x ∷ l) h =
    let t = both (eqb x 0) (all_zero l) h in
    let e : x ≡ 0 = eqb-true x 0 t.0 in
    let q : l ≡ replicate (length l) 0 = all_zeros l t.1 in
    cc

pub zeros_all : (n : ℕ) → all_zero (replicate n 0) ≡ true
zeros_all zero = refl
zeros_all (suc n) = zeros_all n

pub same_eq : (a b : List ℕ) → eq_words a b ≡ true → a ≡ b
same_eq [] [] e = refl
same_eq [] (y ∷ b) e = absurd (false≢true e)
same_eq (x ∷ a) [] e = absurd (false≢true e)
same_eq (x ∷ a) (y ∷ b) e =
    let t = both (eqb x y) (eq_words a b) e in
    let h : x ≡ y = eqb-true x y t.0 in
    let r : a ≡ b = same_eq a b t.1 in
    cc

pub eq-same : (a : List ℕ) → eq_words a a ≡ true
eq-same [] = refl
eq-same (x ∷ a) = rw (eq-eqb x x refl) (eq-same a)

-- ---- the loops that go over words from the first on

module _ (l : List ℕ) (i : ℕ) (h : i < length l) where
  pub zero_more : get_or l i 0 ≡ 0 → all_zero (drop i l) ≡ all_zero (drop (i + 1) l)
  zero_more e = rw (add-one, drop-cons l i 0 h, e)

  pub zero_less : (get_or l i 0 ≡ 0 → ⊥) → all_zero (drop i l) ≡ false
  zero_less n = rw (drop-cons l i 0 h, ne_eqb (get_or l i 0) 0 n)

-- ---- many words at a time

-- words before a place and from it on
pub zero_append : (a b : List ℕ) → all_zero (a ++ b) ≡ (all_zero a && all_zero b)
zero_append [] b = refl
zero_append (x ∷ a) b = rw (zero_append a b) (sym (and_assoc (eqb x 0) (all_zero a) (all_zero b)))

module _ (l : List ℕ) (i : ℕ) where
  -- a list from a place on, as it is lent
  pub tail : take (length l - i) (drop i l) ≡ drop i l
  tail = take_all (length l - i) (drop i l) (simp length-drop (omega arith))

  module _ (w : ℕ) where
    part : all_zero (drop i l) ≡ (all_zero (take w (take (length l - i) (drop i l))) && all_zero (drop (i + w) l))
    part =
        rw tail
        (ap all_zero (sym (take-append-drop w (drop i l)))
        ∙ zero_append (take w (drop i l)) (drop w (drop i l))
        ∙ ap (λ (t : List ℕ). all_zero (take w (drop i l)) && all_zero t) (drop-drop w i l))

    pub part-more : all_zero (take w (take (length l - i) (drop i l))) ≡ true → all_zero (drop i l) ≡ all_zero (drop (i + w) l)
    part-more e = part ∙ rw e

    pub part_less : all_zero (take w (take (length l - i) (drop i l))) ≡ false → all_zero (drop i l) ≡ false
    part_less e = part ∙ rw e

    -- the words before the place and the w from it on, each tested
    pub part_joined : (a b : Bool) → a ≡ all_zero (take i l) → b ≡ all_zero (take w (take (length l - i) (drop i l))) → (a && b) ≡ all_zero (take (i + w) l)
    part_joined a b e f = rw (e, f, tail, take-add i w l) (sym (zero_append (take i l) (take w (drop i l))))

-- the first eight words, four and four
pub eight_words : (l : List ℕ) → 8 ≤ length l
    → ((eqb (get_or l 0 0) 0 && (eqb (get_or l 1 0) 0 && (eqb (get_or l 2 0) 0 && eqb (get_or l 3 0) 0)))
    && (eqb (get_or l 4 0) 0 && (eqb (get_or l 5 0) 0 && (eqb (get_or l 6 0) 0 && eqb (get_or l 7 0) 0)))) ≡ all_zero (take 8 l)
eight_words [] h = absurd (omega arith)
eight_words (a ∷ []) h = absurd (omega arith)
eight_words (a ∷ b ∷ []) h = absurd (omega arith)
eight_words (a ∷ b ∷ c ∷ []) h = absurd (omega arith)
eight_words (a ∷ b ∷ c ∷ d ∷ []) h = absurd (omega arith)
eight_words (a ∷ b ∷ c ∷ d ∷ e ∷ []) h = absurd (omega arith)
eight_words (a ∷ b ∷ c ∷ d ∷ e ∷ f ∷ []) h = absurd (omega arith)
eight_words (a ∷ b ∷ c ∷ d ∷ e ∷ f ∷ g ∷ []) h = absurd (omega arith)
eight_words (a ∷ b ∷ c ∷ d ∷ e ∷ f ∷ g ∷ k ∷ l) h = simp (and_assoc, and-true)

-- past the last word nothing is left
pub ended : (l : List ℕ) (i : ℕ) → length l ≡ i → drop i l ≡ []
ended l i h = rw (← h) (drop-length l)

-- a list that is filled up to its end
pub filled : (l s : List ℕ) (i : ℕ) → length l ≡ i → s ≡ replicate i 0 ++ drop i l → s ≡ replicate (length l) 0
filled l s i h e = e ∙ rw (ended l i h, h) (append-nil (replicate i 0))
