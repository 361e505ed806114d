-- Where a record of a procedure file lies.
use Rattle.std.specs.Prelude.{List, ℕ, ◌+◌, ◌-◌, ◌/◌, eqb, leb, ltb, length}
use Rattle.varset.specs.Lowest.{pick, lowest}
use Rattle.records.specs.Fields.{functions, count_of, kind_at}
use Rattle.records.specs.Parts.{start_of}
use Rattle.desk_places.specs.declared.Place.{Place}
use Rattle.desk_places.specs.declared.Place.TheVariants.{Header, Function, Node, Outside}

-- the function whose part has record k: the lowest whose part ends past it
unfoldable pub holder : List ℕ → ℕ → ℕ
holder s k = lowest (λ f. ltb k (start_of s f + count_of s f)) (functions s)

-- record k as a node of function f, where there is such a function
unfoldable pub node_in : List ℕ → ℕ → ℕ → Place
node_in s k f = pick (ltb f (functions s)) (Node f (k - start_of s f) (kind_at s k)) Outside

-- record k: the header first, then the functions, then their parts one after the other; past the last record nothing
unfoldable pub place_of : List ℕ → ℕ → Place
place_of s k =
    pick (eqb k 0) Header
    (pick (leb (length s / 12) k) Outside
    (pick (leb k (functions s)) (Function (k - 1))
    (node_in s k (holder s k))))
