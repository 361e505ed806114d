-- Children stand before their parent, left to right, without gaps.
use Rattle.std.specs.Prelude.{List, [], ◌∷◌, ℕ, zero, suc, ◌-◌, get_or}
use Rattle.records.specs.Fields.{kind_at, a_at, size_at}

-- how many children a node of each kind has; a call has as many as a says; by kind
unfoldable pub arities : ℕ → List ℕ
arities a = 0 ∷ 0 ∷ 0 ∷ 2 ∷ 2 ∷ a ∷ 0 ∷ 2 ∷ 1 ∷ 1 ∷ 3 ∷ 2 ∷ 1 ∷ 1 ∷ 1 ∷ 0 ∷ []

unfoldable pub arity_of : ℕ → ℕ → ℕ
arity_of kind a = get_or (arities a) kind 0

-- the arity of node i of a part t
unfoldable pub arity_at : List ℕ → ℕ → ℕ
arity_at t i = arity_of (kind_at t i) (a_at t i)

-- m children from the last, which stands at `last`, to the first: each ends where the one after it begins
unfoldable pub walk : (ℕ → ℕ) → ℕ → ℕ → List ℕ
walk size zero last = []
walk size (suc m) last = last ∷ walk size m (last - size last)

-- the children of node i, the last first
unfoldable pub children : List ℕ → ℕ → List ℕ
children t i = walk (size_at t) (arity_at t i) (i - 1)
