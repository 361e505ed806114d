-- An expression reads what its children read, and a variable reads itself.
use mathlib.Core.Path.{◌≡◌, refl}
use mathlib.Core.Bool.{true}
use mathlib.Core.List.{List}
use Prim.Native.Nat.{ℕ, zero, suc, ◌+◌, ◌-◌, ◌≤◌, ◌<◌}
use native.Mathlib.Omega.{arith}
use native.Mathlib.Decide.{dec_lt}
use borrow.Author.Tests.{eq-eqb}
use Rattle.varset.specs.Sets.{Set, has, with, Sub}
use Rattle.records.specs.Fields.{kind_at, b_at, size_at}
use Rattle.records.specs.Children.{arity_at, walk, children}
use Rattle.records.proofs.Bools.{or_more, or_last}
use Rattle.spec_language.specs.Statements.{reads_of}
use Rattle.spec_language.specs.Nodes.{total}
use Rattle.spec_language.proofs.Subtrees.{reads_nodes_lem}
use Rattle.spec_language.proofs.Tiles.{Each}
use Rattle.check_effects.specs.Effects.{Covers}

pub inserted : (r s : ℕ) (x y : ℕ) → has r ≡ with (has s) x → x ≡ y → Sub (has s) (has r) × (has r y ≡ true)
unfolding with
inserted r s x y e q = (λ z l. rw e (or_more (has s z) _ l), rw (e, q) (or_last (has s y) _ (eq-eqb y y refl)))

-- a larger set
pub covers_more : {r d : Set} (t : List ℕ) (c : ℕ) → Covers (reads_of t c) r → Sub r d → Covers (reads_of t c) d
covers_more t c h s e g = h e (λ x l. g x (s x l))

module _ (t : List ℕ) (r : Set) where
  -- the expressions at these nodes read what is in r
  abbrev pub AllCovered : List ℕ → Type 0
  AllCovered cs = Each (λ c. Covers (reads_of t c) r) cs

  children_covered : (d : Set) → Sub r d → (m c : ℕ) → AllCovered (walk (size_at t) m c) → total (size_at t) (walk (size_at t) m c) ≤ c + 1
      → (j : ℕ) → c + 1 - total (size_at t) (walk (size_at t) m c) ≤ j → j < c + 1 → kind_at t j ≡ 2 → d (b_at t j) ≡ true
  unfolding walk total
  children_covered d h zero c e z j a b k = absurd (omega arith)
  children_covered d h (suc m) c e z j a b k = go (children_covered d h m (c - size_at t c) e.1 (omega arith) j) (dec_lt j (c + 1 - size_at t c))
    where
      go : (c - size_at t c + 1 - total (size_at t) (walk (size_at t) m (c - size_at t c)) ≤ j → j < c - size_at t c + 1 → kind_at t j ≡ 2 → d (b_at t j) ≡ true) → Dec (j < c + 1 - size_at t c) → d (b_at t j) ≡ true
      go rest (yes l) = rest (omega arith) (omega arith) k
      go rest (no l) = (reads_nodes_lem t d c (omega arith)).0 (e.0 d h) j (omega arith) (omega arith) k

  -- so does their parent, whose own variable is in r where it is one
  pub node_covered : (i : ℕ) → size_at t i ≡ 1 + total (size_at t) (children t i) → total (size_at t) (children t i) ≤ i → (kind_at t i ≡ 2 → r (b_at t i) ≡ true)
      → AllCovered (children t i) → Covers (reads_of t i) r
  unfolding children
  node_covered i z l own e d h = (reads_nodes_lem t d i (omega arith)).1 (λ j a b k. go j a b k (dec_lt j i))
    where
      go : (j : ℕ) → j ≤ i → i < j + size_at t i → kind_at t j ≡ 2 → Dec (j < i) → d (b_at t j) ≡ true
      go j a b k (yes p) = children_covered d h (arity_at t i) (i - 1) e (omega arith) j (omega arith) (omega arith) k
      go j a b k (no p) = let q : j ≡ i = omega arith in rw q (h (b_at t i) (own (rw q at k)))
