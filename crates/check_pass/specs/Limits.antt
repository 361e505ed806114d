-- The kinds of nodes whose fields have limits alone: all but calls and decls.
use Rattle.std.specs.Prelude.{List, [], ◌∷◌, ℕ}

-- the number that field a is below, by the kind; 0 for calls and decls; by kind
unfoldable pub a_limits : List ℕ
a_limits = 1 ∷ 1 ∷ 1 ∷ 16 ∷ 1 ∷ 0 ∷ 1 ∷ 1 ∷ 1 ∷ 0 ∷ 1 ∷ 1 ∷ 1 ∷ 1 ∷ 1 ∷ 1 ∷ []

-- the number that field b is below, in a function of v variables; by kind
unfoldable pub b_limits : ℕ → List ℕ
b_limits v = 4294967296 ∷ 2 ∷ v ∷ 1 ∷ 1 ∷ 0 ∷ 1 ∷ 1 ∷ v ∷ 0 ∷ 1 ∷ 1 ∷ 1 ∷ 1 ∷ 1 ∷ 1 ∷ []
