-- Question 8 means that children tile their parent's subtree, left to right, without gaps.
use mathlib.Core.Path.{◌≡◌}
use mathlib.Core.List.{List, [], ◌∷◌}
use Prim.Native.Nat.{ℕ, zero, suc, ◌+◌, ◌-◌, ◌≤◌, ◌<◌}
use native.Mathlib.Omega.{arith}
use native.Mathlib.Nat.{not-suc-le-zero, le_refl}
use native.Mathlib.Decide.{dec_lt, ℕ_discrete}
use Rattle.records.specs.Fields.{size_at}
use Rattle.records.specs.Children.{arity_at, walk, children}
use Rattle.spec_language.specs.Nodes.{total}
use Rattle.spec_language.proofs.Facts.{Sized}

-- the subtrees of these nodes, the last first, stand side by side: the first begins at lo, and the last ends before hi
pub data Tiles (size : ℕ → ℕ) : ℕ → ℕ → List ℕ → Type 0 where
  none : {hi : ℕ} → Tiles size hi hi []
  more : {hi lo mid c : ℕ} {cs : List ℕ} → c + 1 ≡ hi → mid + size c ≡ hi → 1 ≤ size c → Tiles size mid lo cs → Tiles size hi lo (c ∷ cs)

-- all nodes of a part of n nodes have right sizes
abbrev pub Sizes : List ℕ → ℕ → Type 0
Sizes t n = (i : ℕ) → i < n → Sized t n i

module _ (t : List ℕ) (n : ℕ) (ok : Sizes t n) where
  pub size-some : (i : ℕ) → i < n → 1 ≤ size_at t i
  size-some i h = omega (arith, (ok i h).size)

  pub size_fits : (i : ℕ) → i < n → size_at t i ≤ i + 1
  size_fits i h = omega (arith, (ok i h).size, (ok i h).inside)

  -- m children that end before hi and have room there
  walk_tiles : (m hi : ℕ) → 0 < n → hi ≤ n → total (size_at t) (walk (size_at t) m (hi - 1)) ≤ hi
      → Tiles (size_at t) hi (hi - total (size_at t) (walk (size_at t) m (hi - 1))) (walk (size_at t) m (hi - 1))
  unfolding walk total
  walk_tiles zero hi some l f = let e : hi - 0 ≡ hi = omega arith in rw e none
  walk_tiles (suc m) zero some l f = absurd (omega (arith, size-some 0 some))
  walk_tiles (suc m) (suc k) some l f =
      let a : suc k - 1 ≡ k = omega arith in
      let z = size-some k l in
      let w = size_fits k l in
      let b : suc k - size_at t k - 1 ≡ k - size_at t k = omega arith in
      let f' : size_at t k + total (size_at t) (walk (size_at t) m (k - size_at t k)) ≤ suc k = rw a at f in
      let r = walk_tiles m (suc k - size_at t k) some (omega arith) (rw b (omega arith)) in
      let r' : Tiles (size_at t) (suc k - size_at t k) (suc k - size_at t k - total (size_at t) (walk (size_at t) m (k - size_at t k))) (walk (size_at t) m (k - size_at t k)) = rw b at r in
      let g : suc k - (size_at t k + total (size_at t) (walk (size_at t) m (k - size_at t k))) ≡ suc k - size_at t k - total (size_at t) (walk (size_at t) m (k - size_at t k)) = omega arith in
      let p : k + 1 ≡ suc k = omega arith in
      let q : suc k - size_at t k + size_at t k ≡ suc k = omega arith in
      rw (a, g) (more p q z r')

  -- the children of node i tile its subtree, which ends with i itself
  pub tiled : (i : ℕ) → i < n → Tiles (size_at t) i (i + 1 - size_at t i) (children t i)
  unfolding children
  tiled i h =
      let z = ok i h in
      let e : i + 1 - size_at t i ≡ i - total (size_at t) (walk (size_at t) (arity_at t i) (i - 1)) = omega (arith, z.size) in
      rw e (walk_tiles (arity_at t i) i (omega arith) (omega arith) z.inside)

-- ---- what passes from a node to its children passes to its whole subtree

-- a statement of each node of a list
abbrev pub Each : (ℕ → Type 0) → List ℕ → Type 0
Each Q [] = Unit {0}
Each Q (c ∷ cs) = Q c × Each Q cs

-- a node of tiles in whose subtree j lies, with what is known of it
pub record Covered (size : ℕ → ℕ) (Q : ℕ → Type 0) (j hi lo : ℕ) : Type 0 where
  pub child : ℕ
  pub holds : Q child
  pub above : j ≤ child
  pub near : child < j + size child
  pub high : child < hi
  pub low : lo + size child ≤ child + 1

tiles_down : {size : ℕ → ℕ} {hi lo : ℕ} {cs : List ℕ} → Tiles size hi lo cs → lo ≤ hi
tiles_down none = le_refl _
tiles_down (more p q r w) = omega (arith, tiles_down w)

pub covered : {size : ℕ → ℕ} {hi lo : ℕ} {cs : List ℕ} (Q : ℕ → Type 0) (j : ℕ) → Tiles size hi lo cs → Each Q cs → lo ≤ j → j < hi → Covered size Q j hi lo
covered Q j none e p q = absurd (omega arith)
covered {size} {hi} {lo} Q j (more {mid = mid} {c = c} {cs = cs} a b z w) e p q = go (λ h. covered Q j w e.1 p h) (dec_lt j mid)
  where
    go : (j < mid → Covered size Q j mid lo) → Dec (j < mid) → Covered size Q j hi lo
    go rest (yes h) =
        let r = rest h in
        record { child = r.child; holds = r.holds; above = r.above; near = r.near; high = omega (arith, r.high); low = r.low }
    go rest (no h) =
        let d = tiles_down w in
        record { child = c; holds = e.0; above = omega arith; near = omega arith; high = omega arith; low = omega arith }

module _ (t : List ℕ) (n : ℕ) (ok : Sizes t n) (Q : ℕ → Type 0) (passes : (i : ℕ) → i < n → Q i → Each Q (children t i)) where
  descend_in : (levels i j : ℕ) → i < levels → i < n → Q i → j ≤ i → i < j + size_at t i → Q j
  descend_in zero i j l h q p r = absurd (not-suc-le-zero l)
  descend_in (suc levels) i j l h q p r = go (λ c. descend_in levels c j) (ℕ_discrete j i)
    where
      go : ((c : ℕ) → c < levels → c < n → Q c → j ≤ c → c < j + size_at t c → Q j) → Dec (j ≡ i) → Q j
      go rest (yes e) = rw e q
      go rest (no d) =
          let c = covered Q j (tiled t n ok i h) (passes i h q) (omega arith) (omega arith) in
          rest c.child (omega (arith, c.high)) (omega (arith, c.high)) c.holds c.above c.near

  -- what passes from each node to its children passes from i to each node j of its subtree
  pub descend : (i j : ℕ) → i < n → Q i → j ≤ i → i < j + size_at t i → Q j
  descend i j = descend_in (suc i) i j (le_refl (suc i))

-- the subtree of a node in a subtree lies in it
module _ (t : List ℕ) (n : ℕ) (ok : Sizes t n) (lo : ℕ) where
  starts_above : {hi m : ℕ} {cs : List ℕ} → Tiles (size_at t) hi m cs → lo ≤ m → Each (λ c. lo + size_at t c ≤ c + 1) cs
  starts_above none l = tt
  starts_above (more a b z w) l = let d = tiles_down w in (omega arith, starts_above w l)

  pub nested : (i j : ℕ) → i < n → lo + size_at t i ≤ i + 1 → j ≤ i → i < j + size_at t i → lo + size_at t j ≤ j + 1
  nested i j h =
      descend t n ok (λ c. lo + size_at t c ≤ c + 1) (λ k l q. starts_above (tiled t n ok k l) (omega arith)) i j h
