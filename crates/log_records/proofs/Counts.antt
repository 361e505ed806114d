-- Counting changes word by word.
use mathlib.Core.Path.{◌≡◌, refl, sym, ap}
use mathlib.Core.Bool.{Bool, true, false, ◌&&◌}
use mathlib.Core.List.{List, [], ◌∷◌}
use Prim.Native.Nat.{ℕ, suc, ◌+◌, ◌<◌}
use native.Mathlib.Omega.{arith}
use lib.Dec.{eqb}
use lib.ListN.{get_or, drop, length}
use borrow.Author.Tests.{ne_eqb}
use Rattle.words.specs.Blocks.{eq_words}
use Rattle.spec_log.specs.Changes.{change, noted, changes}
use Rattle.spec_log.proofs.Changes.{same_word, other_word}

-- the number of changes is the same from any place on
pub count_anywhere : (a b : List ℕ) (i j : ℕ) → length (changes i a b) ≡ length (changes j a b)
count_anywhere [] b i j = refl
count_anywhere (x ∷ a) [] i j = refl
count_anywhere (x ∷ a) (y ∷ b) i j = go (eqb x y) (count_anywhere a b (suc i) (suc j))
  where
    go : (q : Bool) → length (changes (suc i) a b) ≡ length (changes (suc j) a b)
        → length (noted q (change i x) (changes (suc i) a b)) ≡ length (noted q (change j x) (changes (suc j) a b))
    go true e = e
    go false e = ap suc e

-- one word more: one that is not the same, or one that is
pub count_other : (a b : List ℕ) (k j i t : ℕ) → i < length a → length a ≡ length b → ¬ (get_or a i 0 ≡ get_or b i 0) → j ≡ k + 1
    → k + length (changes i (drop i a) (drop i b)) ≡ t → j + length (changes (i + 1) (drop (i + 1) a) (drop (i + 1) b)) ≡ t
count_other a b k j i t h e q w s =
    let n : suc i ≡ i + 1 = omega arith in
    let z : length (changes i (drop i a) (drop i b)) ≡ suc (length (changes (suc i) (drop (suc i) a) (drop (suc i) b))) = ap length (other_word a b i i h e q) in
    rw (← n) (omega arith)

pub count_same : (a b : List ℕ) (k j i t : ℕ) → i < length a → length a ≡ length b → get_or a i 0 ≡ get_or b i 0 → j ≡ k
    → k + length (changes i (drop i a) (drop i b)) ≡ t → j + length (changes (i + 1) (drop (i + 1) a) (drop (i + 1) b)) ≡ t
count_same a b k j i t h e q w s =
    let n : suc i ≡ i + 1 = omega arith in
    rw (← n, w, ← same_word a b i i h e q) s

-- lists are the same where nothing is changed
pub same_count : (a b : List ℕ) (i : ℕ) → length a ≡ length b → eq_words a b ≡ eqb (length (changes i a b)) 0
same_count [] [] i e = refl
same_count [] (y ∷ b) i e = absurd (omega arith)
same_count (x ∷ a) [] i e = absurd (omega arith)
same_count (x ∷ a) (y ∷ b) i e = go (eqb x y) (same_count a b (suc i) (omega arith))
  where
    go : (q : Bool) → eq_words a b ≡ eqb (length (changes (suc i) a b)) 0 → (q && eq_words a b) ≡ eqb (length (noted q (change i x) (changes (suc i) a b))) 0
    go true h = h
    go false h = sym (ne_eqb (suc (length (changes (suc i) a b))) 0 (λ z. omega (arith, z)))
