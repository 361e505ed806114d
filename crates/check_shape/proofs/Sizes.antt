-- The sizes of some children together, one child at a time.
use mathlib.Core.Path.{◌≡◌}
use mathlib.Core.List.{List, [], ◌∷◌}
use Prim.Native.Nat.{ℕ, ◌+◌, ◌*◌, ◌-◌, ◌<◌}
use native.Mathlib.Omega.{arith}
use lib.ListN.{length}
use Rattle.records.specs.Fields.{size_at}
use Rattle.records.specs.Children.{arity_at, walk, children}
use Rattle.records.specs.Numbered.{left_of}
use Rattle.records.proofs.Children.{length-walk, Nodes, nodes_all, nodes_step, nodes_end}
use Rattle.spec_language.specs.Nodes.{total}

-- the sizes of the children so far, and those of the children that are left
pub record Sum (t : List ℕ) (n whole : ℕ) (left : List (ℕ × ℕ)) (sum : ℕ) : Type 0 where
  pub nodes : List ℕ
  pub are : Nodes n left nodes
  pub small : sum + length nodes * 4294967296 < 256 * 4294967296
  pub equal : sum + total (size_at t) nodes ≡ whole

pub sum_all : (t : List ℕ) (i m : ℕ) {left : List (ℕ × ℕ)} → m ≡ arity_at t i → m < 256 → left ≡ left_of t m (i - 1) → Sum t (i + 1) (total (size_at t) (children t i)) left 0
unfolding children
sum_all t i m e h p =
    let l = length-walk (size_at t) m (i - 1) in
    record { nodes = walk (size_at t) m (i - 1); are = rw p (nodes_all t (i + 1) m (i - 1) (omega arith)); small = omega arith; equal = rw e (omega arith) }

-- one child more
pub sum_more : (t : List ℕ) (n whole k c sum size : ℕ) {left more : List (ℕ × ℕ)} → Sum t n whole left sum → left ≡ (k, c) ∷ more → size ≡ size_at t c → size < 4294967296 → Sum t n whole more (sum + size)
unfolding total
sum_more t n whole k c sum size w e p h =
    let came = nodes_step w.nodes w.are e in
    let small = rw came.first at w.small in
    let equal = rw came.first at w.equal in
    record { nodes = came.rest; are = came.are; small = omega arith; equal = omega arith }

-- none left
pub sum_end : (t : List ℕ) (n whole sum : ℕ) {left : List (ℕ × ℕ)} → Sum t n whole left sum → left ≡ [] → (sum ≡ whole) × (sum < 1099511627776)
unfolding total
sum_end t n whole sum w e =
    let none : w.nodes ≡ [] = nodes_end w.nodes w.are e in
    let small = rw none at w.small in
    let equal = rw none at w.equal in
    (omega arith, omega arith)
