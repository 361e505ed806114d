-- The bytes of records, for worked files.
use Rattle.std.specs.Prelude.{List, [], ◌∷◌, ◌++◌, ℕ}

-- the header of a file of F functions and N nodes, each below 256, in an edition
abbrev pub header_in : ℕ → ℕ → ℕ → List ℕ
header_in edition F N = 80 ∷ 82 ∷ F ∷ 0 ∷ N ∷ 0 ∷ 0 ∷ 0 ∷ edition ∷ 0 ∷ 0 ∷ 0 ∷ []

-- in edition 0
abbrev pub header : ℕ → ℕ → List ℕ
header = header_in 0

-- a function's record
abbrev pub function : ℕ → ℕ → ℕ → ℕ → ℕ → List ℕ
function result p v mask count = 70 ∷ 78 ∷ result ∷ p ∷ v ∷ mask ∷ 0 ∷ 0 ∷ count ∷ 0 ∷ 0 ∷ 0 ∷ []

-- a node whose b has these four bytes, the lowest first
abbrev pub wide : ℕ → ℕ → ℕ → ℕ → ℕ → ℕ → ℕ → List ℕ
wide kind a b c d e size = 78 ∷ 68 ∷ kind ∷ a ∷ b ∷ c ∷ d ∷ e ∷ size ∷ 0 ∷ 0 ∷ 0 ∷ []

-- a node whose b is below 256
abbrev pub node : ℕ → ℕ → ℕ → ℕ → List ℕ
node kind a b size = wide kind a b 0 0 0 size

-- a file of main alone in an edition, with v variables and so many nodes
abbrev pub alone_in : ℕ → ℕ → ℕ → List ℕ → List ℕ
alone_in edition v count body = header_in edition 1 count ++ (function 1 0 v 0 count ++ body)

-- in edition 0
abbrev pub alone : ℕ → ℕ → List ℕ → List ℕ
alone = alone_in 0
