-- What the working array of types holds.
use Rattle.std.specs.Prelude.{◌≡◌, List, ℕ, ◌<◌, get_or}
use Rattle.spec_language.specs.Types.{type_at}

-- the types of the first i nodes of function f's part, of n nodes
abbrev pub NodesTyped : List ℕ → ℕ → List ℕ → ℕ → ℕ → List ℕ → Type 0
NodesTyped s f t n i types = (k : ℕ) → k < i → get_or types k 0 ≡ type_at s f t n k
