-- The children of a node, each with its number.
use Rattle.std.specs.Prelude.{List, [], ◌∷◌, ℕ, length}
use Rattle.records.specs.Fields.{size_at}
use Rattle.records.specs.Children.{walk}

-- each child with its number, the last first
unfoldable pub numbered : List ℕ → List (ℕ × ℕ)
numbered [] = []
numbered (child ∷ rest) = (length rest, child) ∷ numbered rest

-- the children that a walk of part t still finds, with their numbers
abbrev pub left_of : List ℕ → ℕ → ℕ → List (ℕ × ℕ)
left_of t left last = numbered (walk (size_at t) left last)
