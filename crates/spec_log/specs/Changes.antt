-- The words in which one list differs from another, and the first list again from the second.
use Rattle.std.specs.Prelude.{Bool, true, false, List, [], ◌∷◌, ℕ, suc, eqb, set}

-- a place, and the word that was there
pub data Change : Type 0 where
  change : ℕ → ℕ → Change

-- a change where a word is not the same
abbrev pub noted : Bool → Change → List Change → List Change
noted true c cs = cs
noted false c cs = c ∷ cs

-- the words of the first list that the second does not have, counted from place i
abbrev pub changes : ℕ → List ℕ → List ℕ → List Change
changes i [] b = []
changes i (x ∷ a) [] = []
changes i (x ∷ a) (y ∷ b) = noted (eqb x y) (change i x) (changes (suc i) a b)

-- the list with these words put back, one after another
abbrev pub restored : List Change → List ℕ → List ℕ
restored [] l = l
restored (change i x ∷ cs) l = restored cs (set l i x)
