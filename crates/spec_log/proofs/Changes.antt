-- What was changed is put back, and what the changes of a list are.
use mathlib.Core.Path.{◌≡◌, refl, ap, ◌∙◌}
use mathlib.Core.Bool.{Bool, true, false}
use mathlib.Core.List.{List, [], ◌∷◌, ◌++◌}
use Prim.Native.Nat.{ℕ, suc, ◌+◌, ◌<◌, ◌≤◌}
use native.Mathlib.Omega.{arith}
use lib.Dec.{eqb}
use lib.ListN.{set, get_or, drop, length, length-append, length-set, drop_of_length-le}
use lib.Seq.{append_snoc, set_at, drop-cons}
use borrow.Author.Tests.{eqb-true, eq-eqb, ne_eqb}
use Rattle.spec_log.specs.Changes.{Change, change, noted, changes, restored}

back_from : (a b p : List ℕ) (i : ℕ) → length p ≡ i → length a ≡ length b → restored (changes i a b) (p ++ b) ≡ p ++ a
back_from [] [] p i hp h = refl
back_from [] (y ∷ b) p i hp h = absurd (omega arith)
back_from (x ∷ a) [] p i hp h = absurd (omega arith)
back_from (x ∷ a) (y ∷ b) p i hp h =
    go (eqb x y) refl (rw (← append_snoc p x b, ← append_snoc p x a) (back_from a b (p ++ (x ∷ [])) (suc i) (simp length-append (omega arith)) (omega arith)))
  where
    go : (q : Bool) → eqb x y ≡ q → restored (changes (suc i) a b) (p ++ (x ∷ b)) ≡ p ++ (x ∷ a)
        → restored (noted q (change i x) (changes (suc i) a b)) (p ++ (y ∷ b)) ≡ p ++ (x ∷ a)
    go true e later = let z : x ≡ y = eqb-true x y e in rw (← z) later
    go false e later = ap (λ (l : List ℕ). restored (changes (suc i) a b) l) (set_at p y b x i hp) ∙ later

-- the first list again
pub back : (a b : List ℕ) → length a ≡ length b → restored (changes 0 a b) b ≡ a
back a b h = back_from a b [] 0 refl h

-- words put back leave the length
pub length_restored : (cs : List Change) (l : List ℕ) → length (restored cs l) ≡ length l
length_restored [] l = refl
length_restored (change i x ∷ cs) l = length_restored cs (set l i x) ∙ length-set l i x

-- how many changes a word is
abbrev differing : Bool → ℕ
differing true = 0
differing false = 1

-- a word more
counted : (b : Bool) (c : Change) (cs : List Change) → length (noted b c cs) ≡ differing b + length cs
counted true c cs = omega arith
counted false c cs = omega arith

-- the word at i, and the later ones
onward : (a b : List ℕ) (o i : ℕ) → i < length a → length a ≡ length b
    → changes o (drop i a) (drop i b) ≡ noted (eqb (get_or a i 0) (get_or b i 0)) (change o (get_or a i 0)) (changes (suc o) (drop (suc i) a) (drop (suc i) b))
onward a b o i h e = let k : i < length b = omega arith in rw (drop-cons a i 0 h, drop-cons b i 0 k)

pub same_word : (a b : List ℕ) (o i : ℕ) → i < length a → length a ≡ length b → get_or a i 0 ≡ get_or b i 0
    → changes o (drop i a) (drop i b) ≡ changes (suc o) (drop (suc i) a) (drop (suc i) b)
same_word a b o i h e q = onward a b o i h e ∙ rw (eq-eqb (get_or a i 0) (get_or b i 0) q)

pub other_word : (a b : List ℕ) (o i : ℕ) → i < length a → length a ≡ length b → ¬ (get_or a i 0 ≡ get_or b i 0)
    → changes o (drop i a) (drop i b) ≡ change o (get_or a i 0) ∷ changes (suc o) (drop (suc i) a) (drop (suc i) b)
other_word a b o i h e q = onward a b o i h e ∙ rw (ne_eqb (get_or a i 0) (get_or b i 0) q)

-- there is none behind the last
pub none_more : (a b : List ℕ) (o i : ℕ) → length a ≤ i → changes o (drop i a) (drop i b) ≡ []
none_more a b o i h = rw (drop_of_length-le a {i = i} h)

-- a word is one change at most
differing_most : (b : Bool) → differing b ≤ 1
differing_most true = omega arith
differing_most false = omega arith

-- there are no more changes than words
pub changes_few : (i : ℕ) (a b : List ℕ) → length (changes i a b) ≤ length a
changes_few i [] b = omega arith
changes_few i (x ∷ a) [] = omega arith
changes_few i (x ∷ a) (y ∷ b) = omega (arith, counted (eqb x y) (change i x) (changes (suc i) a b), differing_most (eqb x y), changes_few (suc i) a b)

-- a statement of the place and the word of every change
abbrev pub EachChange : (ℕ → ℕ → Type 0) → List Change → Type 0
EachChange Q [] = Unit {0}
EachChange Q (change i x ∷ cs) = Q i x × EachChange Q cs

-- it holds of the changes of a list where it holds of each word at its place
pub changes_each : (Q : ℕ → ℕ → Type 0) (i : ℕ) (a b : List ℕ) → ((k : ℕ) → k < length a → Q (i + k) (get_or a k 0)) → EachChange Q (changes i a b)
changes_each Q i [] b h = tt
changes_each Q i (x ∷ a) [] h = tt
changes_each Q i (x ∷ a) (y ∷ b) h =
    go (eqb x y) (changes_each Q (suc i) a b (λ k hk. let e : i + suc k ≡ suc i + k = omega arith in rw e at (h (suc k) (omega arith))))
  where
    go : (q : Bool) → EachChange Q (changes (suc i) a b) → EachChange Q (noted q (change i x) (changes (suc i) a b))
    go true later = later
    go false later = let e : i + 0 ≡ i = omega arith in (rw e at (h 0 (omega arith)), later)

-- a change has a place of the list, and a word of it
pub changes_inside : (i : ℕ) (a b : List ℕ) → EachChange (λ p x. (p < i + length a) × ((k : ℕ) × (x ≡ get_or a k 0))) (changes i a b)
changes_inside i a b = changes_each _ i a b (λ k h. (omega arith, (k, refl)))
