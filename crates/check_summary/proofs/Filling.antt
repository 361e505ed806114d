-- The rows of a well-formed part, node by node.
use mathlib.Core.Path.{◌≡◌, refl}
use mathlib.Core.Bool.{true}
use mathlib.Core.List.{List}
use Prim.Native.Nat.{ℕ, ◌+◌, ◌-◌, ◌*◌, ◌≤◌, ◌<◌}
use native.Mathlib.Omega.{arith}
use lib.ListN.{length}
use Rattle.varset.specs.Sets.{has, either}
use Rattle.records.specs.Fields.{kind_at, b_at, size_at}
use Rattle.spec_language.specs.Known.{names_variable, WellFormed}
use Rattle.spec_language.specs.Scopes.{uses_variable}
use Rattle.spec_language.specs.Sorts.{is_expression}
use Rattle.spec_language.proofs.Tiles.{Sizes, size-some, size_fits, nested}
use Rattle.spec_language.proofs.KindLists.{in_range, statement_within}
use Rattle.spec_language.proofs.KnownNodes.{inner}
use Rattle.spec_language.proofs.Facts.{sized_is}
use Rattle.spec_language.proofs.Subtrees.{tree_placed}
use Rattle.check_summary.specs.Tables.{Range, word_of, RowsFilled}
use Rattle.check_summary.proofs.Ranges.{joined, needs_range}

module _ {t : List ℕ} {n : ℕ} (p : WellFormed t n) where
  pub sizes : Sizes t n
  sizes i l = sized_is t n i (p.sized i l)

  -- a node's record is in the part
  pub in_part : {i : ℕ} → i < n → 12 * i + 12 ≤ length t
  in_part {i} l = omega (arith, p.inside, l)

  -- a statement with children has one right before it
  pub after_child : {i : ℕ} → i < n → 7 ≤ kind_at t i → kind_at t i ≤ 14 → 1 ≤ i
  after_child l a b = inner _ p.nodes l refl (statement_within _ a (omega arith))

  -- an assign and a decl name a variable
  pub held : {i : ℕ} → i < n → 8 ≤ kind_at t i → kind_at t i ≤ 9 → b_at t i < 64
  unfolding names_variable uses_variable
  held {i} l a b = p.nodes.variable i l (by_kind (kind_at t i) a (omega arith))
    where
      by_kind : (kind : ℕ) → 8 ≤ kind → kind < 10 → names_variable kind ≡ true
      by_kind = in_range (λ k. names_variable k ≡ true) 8 2 (refl, (refl, refl))

  -- what a node's own read asks
  pub read_asks : {i : ℕ} → i < n → (12 * i + 12 ≤ length t) × (kind_at t i ≡ 2 → b_at t i < 64)
  unfolding names_variable uses_variable
  read_asks {i} l = (omega (arith, p.inside, l), λ e. p.nodes.variable i l (rw e refl))

  module _ {i : ℕ} (l : i < n) where
    pub some_size : 1 ≤ size_at t i
    some_size = size-some t n sizes i l

    pub fits_size : size_at t i ≤ i + 1
    fits_size = size_fits t n sizes i l

  -- the subtree before a covered range joined to it
  pub needs_step : {i : ℕ} {table : List ℕ} {low a b w low' : ℕ} → i < n → is_expression (kind_at t i) ≡ true → RowsFilled t table i → i + 1 - size_at t i < low → low ≤ i
      → Range t low (i + 1) a → b ≡ word_of table (low - 1) 1 → has w ≡ either (has a) (has b) → low' ≡ low - size_at t (low - 1)
      → (i + 1 - size_at t i ≤ low') × (low' ≤ i) × Range t low' (i + 1) w
  needs_step {i} {table} {low} {a} {b} {w} {low'} l k o g h r e u v =
      let z = fits_size l in
      let c = low - 1 in
      let y : c < n = omega (arith, l, h) in
      let x = nested t n sizes (i + 1 - size_at t i) i c l (omega arith) (omega arith) (omega arith) in
      let d = o.reads c (omega (arith, g, h)) (tree_placed t n sizes p.placed i c l k (omega arith) (omega arith)) in
      let q : c + 1 ≡ low = omega (arith, g) in
      let j : Range t (c + 1 - size_at t c) (c + 1) b = rw e (needs_range t c _ (fits_size y) d) in
      let m : c + 1 - size_at t c ≡ low' = omega (arith, q, v) in (
        omega (arith, x, m),
        omega (arith, m, some_size y, h),
        joined t low' low (i + 1) a b w (omega (arith, m)) (omega (arith, h)) r (rw (m, q) at j) u,
      )

  -- the variable that a node of a kind names
  pub named_below : {i : ℕ} (kind : ℕ) → i < n → kind_at t i ≡ kind → names_variable kind ≡ true → b_at t i < 64
  named_below {i} kind l e w = p.nodes.variable i l (rw e w)
