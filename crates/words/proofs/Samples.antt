-- Worked stacks: entries of two words, a number and its double.
use mathlib.Core.Path.{◌≡◌, refl}
use mathlib.Core.Bool.{false}
use mathlib.Core.List.{List, [], ◌∷◌}
use Prim.Native.Nat.{ℕ, ◌+◌}
use lib.ListN.{get_or}
use Rattle.words.specs.Blocks.{puts, all_zero, eq_words}
use Rattle.words.specs.Moves.{moved}
use Rattle.words.specs.Stacks.{region, entries}

abbrev enc : ℕ → List ℕ
enc x = x ∷ (x + x) ∷ []

abbrev dec : List ℕ → ℕ
dec b = get_or b 0 0

-- a stack of 5, 4, 3 from the top, in a room of 4, after the word 9 and before the word 8
abbrev memory : List ℕ
memory = 9 ∷ 3 ∷ 6 ∷ 4 ∷ 8 ∷ 5 ∷ 10 ∷ 0 ∷ 0 ∷ 8 ∷ []

room : region 2 enc 4 (5 ∷ 4 ∷ 3 ∷ []) ≡ 3 ∷ 6 ∷ 4 ∷ 8 ∷ 5 ∷ 10 ∷ 0 ∷ 0 ∷ []
room = refl

read : entries 2 dec memory 1 3 ≡ 5 ∷ 4 ∷ 3 ∷ []
read = refl

pushed : puts memory 7 0 (enc 7) ≡ 9 ∷ 3 ∷ 6 ∷ 4 ∷ 8 ∷ 5 ∷ 10 ∷ 7 ∷ 14 ∷ 8 ∷ []
pushed = refl

lowered : moved memory 5 1 2 ≡ 9 ∷ 5 ∷ 10 ∷ 4 ∷ 8 ∷ 0 ∷ 0 ∷ 0 ∷ 0 ∷ 8 ∷ []
lowered = refl

longer : eq_words (1 ∷ []) (1 ∷ 2 ∷ []) ≡ false
longer = refl

zeros : all_zero (0 ∷ 0 ∷ 1 ∷ []) ≡ false
zeros = refl
