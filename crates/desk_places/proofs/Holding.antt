-- What a walk over the parts shows of the function that has a record.
use mathlib.Core.Path.{◌≡◌}
use mathlib.Core.Bool.{Bool, false}
use mathlib.Core.List.{List}
use Prim.Native.Nat.{ℕ, ◌+◌, ◌-◌, ◌≤◌, ◌<◌}
use native.Mathlib.Omega.{arith}
use lib.Dec.{ltb}
use borrow.Author.Tests.{lt-ltb, le-ltb}
use Rattle.records.specs.Fields.{functions, count_of, kind_at}
use Rattle.records.specs.Parts.{start_of}
use Rattle.records.proofs.Loops.{Below, lowest_at, lowest_none}
use Rattle.desk_places.specs.Located.{holder, node_in}
use Rattle.desk_places.specs.declared.Place.TheVariants.{Node, Outside}

-- the part of function f ends past record k
abbrev pub Ends : List ℕ → ℕ → ℕ → Bool
Ends s k f = ltb k (start_of s f + count_of s f)

module _ (s : List ℕ) (k f start n : ℕ) (a : start ≡ start_of s f) (b : n ≡ count_of s f) where
  -- the first function whose part ends past the record has it
  pub held : (kind : ℕ) → kind ≡ kind_at s k → f < functions s → Below (Ends s k) f → k < start + n → Node f (k - start) kind ≡ node_in s k (holder s k)
  unfolding node_in holder
  held kind e l below h =
      let p : k < start_of s f + count_of s f = omega arith in
      rw (lowest_at (Ends s k) (functions s) f l below (lt-ltb k (start_of s f + count_of s f) p), lt-ltb f (functions s) l, a, e)

  -- and one whose part does not is passed
  pub passed : start + n ≤ k → Ends s k f ≡ false
  passed h = let p : start_of s f + count_of s f ≤ k = omega arith in le-ltb k (start_of s f + count_of s f) p

-- where no part ends past the record no function has it
pub held_none : (s : List ℕ) (k F f : ℕ) → F ≡ functions s → F ≤ f → Below (Ends s k) f → Outside ≡ node_in s k (holder s k)
unfolding node_in holder
held_none s k F f e h below =
    let w : Below (Ends s k) (functions s) = λ j l. below j (omega arith) in
    rw (lowest_none (Ends s k) (functions s) w, le-ltb (functions s) (functions s) (omega arith))
