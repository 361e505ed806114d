-- What is known of a node, and of a node below it.
use mathlib.Core.Path.{◌≡◌}
use mathlib.Core.Bool.{true}
use mathlib.Core.List.{List}
use Prim.Native.Nat.{ℕ, ◌*◌, ◌≤◌, ◌<◌}
use native.Mathlib.Omega.{arith}
use lib.ListN.{length}
use Rattle.records.specs.Fields.{kind_at, a_at, b_at}
use Rattle.records.specs.Children.{arity_at}
use Rattle.spec_language.specs.KindLists.{is_statement}
use Rattle.spec_language.proofs.KindLists.{has_child}
use Rattle.spec_language.specs.Known.{Known, names_variable}

-- a statement other than nop has a child, so it is not the first node
pub inner : {t : List ℕ} {n i : ℕ} (kind : ℕ) → Known t n → i < n → kind_at t i ≡ kind → is_statement kind ≡ true → 0 < i
unfolding arity_at
inner {t} {n} {i} kind h l e p = h.child i l (rw e (has_child (a_at t i) kind p))

-- the variable that a node names
pub named : {t : List ℕ} {n i : ℕ} (kind : ℕ) → Known t n → i < n → kind_at t i ≡ kind → names_variable kind ≡ true → b_at t i < 64
named {t} {n} {i} kind h l e p = h.variable i l (rw e p)

-- what a call on a node below asks
pub reach : {s : List ℕ} {n i j : ℕ} → ((12 * n ≤ length s) × (i < n)) × Known s n → j < i → ((12 * n ≤ length s) × (j < n)) × Known s n
reach h l = ((h.0.0, omega arith), h.1)

-- and a call of the same function
pub descend : {s : List ℕ} {n i t j : ℕ} → (i ≡ t) × (((12 * n ≤ length s) × (i < n)) × Known s n) → j < i → (j < t) × (((12 * n ≤ length s) × (j < n)) × Known s n)
descend h l = (omega arith, reach h.1 l)
