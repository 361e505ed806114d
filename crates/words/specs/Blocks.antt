-- Blocks of words inside a list of words.
use Rattle.std.specs.Prelude.{Bool, true, false, ◌&&◌, List, [], ◌∷◌, ℕ, suc, ◌+◌, eqb, set}

-- the words of a block stored one by one, at at + k, at + (k + 1), ..
abbrev pub puts : List ℕ → ℕ → ℕ → List ℕ → List ℕ
puts l at k [] = l
puts l at k (v ∷ vs) = puts (set l (at + k) v) at (suc k) vs

-- whether every word is zero
abbrev pub all_zero : List ℕ → Bool
all_zero [] = true
all_zero (x ∷ l) = eqb x 0 && all_zero l

-- whether two lists have the same words
abbrev pub eq_words : List ℕ → List ℕ → Bool
eq_words [] [] = true
eq_words [] (y ∷ b) = false
eq_words (x ∷ a) [] = false
eq_words (x ∷ a) (y ∷ b) = eqb x y && eq_words a b
