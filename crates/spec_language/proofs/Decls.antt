-- Questions 10 and 11 mean that a use lies inside the subtree of the one decl of its variable.
use mathlib.Core.Path.{◌≡◌, refl}
use mathlib.Core.Bool.{Bool, true, false, not, ◌&&◌}
use mathlib.Core.List.{List}
use Prim.Native.Nat.{ℕ, zero, suc, ◌+◌, ◌≤◌, ◌<◌}
use native.Mathlib.Omega.{arith}
use native.Mathlib.Nat.{not-suc-le-zero}
use native.Mathlib.Decide.{dec_lt}
use lib.Dec.{eqb, ltb}
use borrow.Author.Tests.{eqb-true, le-leb, ltb-true, not-false}
use Rattle.varset.specs.Lowest.{pick}
use Rattle.records.specs.Fields.{functions, params_of, vars_of, count_of, kind_at, b_at, size_at}
use Rattle.records.specs.Parts.{part_of}
use Rattle.records.proofs.Bools.{and_left, and_right, clash}
use Rattle.spec_language.specs.Scopes.{declares_at, decl_count, decl_of, under, uses_variable}
use Rattle.spec_language.specs.Nodes.{undeclared, outside}
use Rattle.spec_language.proofs.Accept.{Accepted}

module _ (t : List ℕ) (x : ℕ) where
  -- where one of n nodes declares x, the decl chosen is one of them
  pub decl_chosen : (n : ℕ) → 1 ≤ decl_count t n x → (decl_of t n x < n) × (declares_at t (decl_of t n x) x ≡ true)
  unfolding decl_count decl_of
  decl_chosen zero h = absurd (not-suc-le-zero h)
  decl_chosen (suc n) h = go (declares_at t n x) refl (decl_chosen n) h
    where
      go : (b : Bool) → declares_at t n x ≡ b → (1 ≤ decl_count t n x → (decl_of t n x < n) × (declares_at t (decl_of t n x) x ≡ true))
          → 1 ≤ pick b (suc (decl_count t n x)) (decl_count t n x) → (pick b n (decl_of t n x) < suc n) × (declares_at t (pick b n (decl_of t n x)) x ≡ true)
      go true e r k = (omega arith, e)
      go false e r k = let c = r k in (omega (arith, c.0), c.1)

  none_counted : (n : ℕ) → decl_count t n x ≡ 0 → (d : ℕ) → d < n → declares_at t d x ≡ false
  unfolding decl_count
  none_counted zero e d h = absurd (not-suc-le-zero h)
  none_counted (suc n) e d h = go (declares_at t n x) refl e (λ z. none_counted n z d) (dec_lt d n)
    where
      go : (b : Bool) → declares_at t n x ≡ b → pick b (suc (decl_count t n x)) (decl_count t n x) ≡ 0 → (decl_count t n x ≡ 0 → d < n → declares_at t d x ≡ false)
          → Dec (d < n) → declares_at t d x ≡ false
      go true q z r c = absurd (omega arith)
      go false q z r (yes l) = r z l
      go false q z r (no l) = let k : d ≡ n = omega arith in rw k q

  -- where at most one of n nodes declares x, each that does is the one chosen
  pub decl_only : (n : ℕ) → decl_count t n x ≤ 1 → (d : ℕ) → d < n → declares_at t d x ≡ true → d ≡ decl_of t n x
  unfolding decl_count decl_of
  decl_only zero h d l e = absurd (not-suc-le-zero l)
  decl_only (suc n) h d l e = go (declares_at t n x) refl h (λ z k. decl_only n z d k e) (dec_lt d n)
    where
      go : (b : Bool) → declares_at t n x ≡ b → pick b (suc (decl_count t n x)) (decl_count t n x) ≤ 1 → (decl_count t n x ≤ 1 → d < n → d ≡ decl_of t n x)
          → Dec (d < n) → d ≡ pick b n (decl_of t n x)
      go true q z r (yes k) = clash (declares_at t d x) e (none_counted n (omega arith) d k)
      go true q z r (no k) = omega arith
      go false q z r (yes k) = r z k
      go false q z r (no k) = let m : d ≡ n = omega arith in clash (declares_at t d x) e (rw m q)

-- the one decl of x among n nodes
pub record OneDecl (t : List ℕ) (n x d : ℕ) : Type 0 where
  pub inside : d < n
  pub declares : declares_at t d x ≡ true
  pub only : (e : ℕ) → e < n → declares_at t e x ≡ true → e ≡ d

module _ (s : List ℕ) (h : Accepted s) (f : ℕ) (l : f < functions s) where
  -- 10: each variable from p on has one decl
  pub one_decl : (x : ℕ) → params_of s f ≤ x → x < vars_of s f → OneDecl (part_of s f) (count_of s f) x (decl_of (part_of s f) (count_of s f) x)
  unfolding undeclared
  one_decl x p v =
      let a = h.ten f x l v in
      let b : not (eqb (decl_count (part_of s f) (count_of s f) x) 1) ≡ false = rw (le-leb _ _ p) at a in
      let c : decl_count (part_of s f) (count_of s f) x ≡ 1 = eqb-true _ _ (not-false _ b) in
      let d = decl_chosen (part_of s f) x (count_of s f) (omega arith) in
      record { inside = d.0; declares = d.1; only = λ e. decl_only (part_of s f) x (count_of s f) (omega arith) e }

  -- 11: a node that uses or assigns a variable from p on lies in the subtree of its decl
  pub use_inside : (i : ℕ) → i < count_of s f → uses_variable (kind_at (part_of s f) i) ≡ true → params_of s f ≤ b_at (part_of s f) i
      → let d = decl_of (part_of s f) (count_of s f) (b_at (part_of s f) i) in (i < d) × (d < i + size_at (part_of s f) d)
  unfolding outside under
  use_inside i k u p =
      let t = part_of s f in
      let d = decl_of t (count_of s f) (b_at t i) in
      let a = h.eleven f i l k in
      let b : not (ltb i d && ltb d (i + size_at t d)) ≡ false = rw (u, le-leb _ _ p) at a in
      let c = not-false _ b in
      (ltb-true _ _ (and_left (ltb i d) _ c), ltb-true _ _ (and_right (ltb i d) _ c))
