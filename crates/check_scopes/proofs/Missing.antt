-- The lowest of the variables that are not declared exactly once.
use Rattle.std.specs.Prelude.{None}
use mathlib.Core.Path.{◌≡◌, refl, sym}
use mathlib.Core.Bool.{Bool, true, false, not, ◌&&◌}
use mathlib.Core.List.{List}
use Prim.Native.Nat.{ℕ, zero, suc, ◌≤◌, ◌<◌}
use native.Mathlib.Omega.{arith}
use lib.Dec.{eqb, leb, ltb}
use borrow.Author.Tests.{ne_eqb, le-leb, lt-leb, lt-ltb, le-ltb, ltb-true, ltb-false}
use Rattle.records.specs.Search.{At}
use Rattle.varset.specs.Lowest.{lowest}
use Rattle.varset.specs.Sets.{has, less, below}
use Rattle.records.specs.Fields.{params_of, vars_of}
use Rattle.records.proofs.Bools.{and_left, and_right}
use Rattle.records.proofs.Loops.{lowest_at, lowest_none, lowest_below, lowest_passes}
use Rattle.spec_language.specs.Scopes.{decl_count}
use Rattle.spec_language.specs.Nodes.{undeclared, first_undeclared}
use Rattle.check_scopes.specs.Counts.{Counts}
use Rattle.check_scopes.specs.declared.Declared.{Declared}

-- one is at least one and not at least two
once : (m : ℕ) → leb 1 m && not (leb 2 m) ≡ eqb m 1
once zero = refl
once (suc zero) = refl
once (suc (suc m)) = rw (le-leb 1 (suc (suc m)) (omega arith), le-leb 2 (suc (suc m)) (omega arith), ne_eqb (suc (suc m)) 1 (omega arith))

not-less : (x p : ℕ) → not (ltb x p) ≡ leb p x
not-less x p = go (ltb x p) refl
  where
    go : (b : Bool) → ltb x p ≡ b → not b ≡ leb p x
    go true e = let l : x < p = ltb-true x p e in sym (lt-leb p x l)
    go false e = let l : p ≤ x = ltb-false x p e in sym (le-leb p x l)

and_assoc : (a b c : Bool) → (a && b) && c ≡ a && (b && c)
and_assoc true b c = refl
and_assoc false b c = refl

-- what the sets hold are the variables below v that pass the question's test
pub missing_is : (s : List ℕ) (f : ℕ) (t : List ℕ) (n : ℕ) (d : Declared) → Counts t n d
    → less (less (below (vars_of s f)) (below (params_of s f))) (less (has d.seen.0) (has d.twice.0)) ≡ (λ x. ltb x (vars_of s f) && undeclared s f t n x)
unfolding less below undeclared
missing_is s f t n d c = rw (c.seen, c.twice) (λ k x. same x k)
  where
    same : (x : ℕ)
        → (ltb x (vars_of s f) && not (ltb x (params_of s f))) && not (leb 1 (decl_count t n x) && not (leb 2 (decl_count t n x)))
        ≡ ltb x (vars_of s f) && (leb (params_of s f) x && not (eqb (decl_count t n x) 1))
    same x = rw (not-less x (params_of s f), once (decl_count t n x)) (and_assoc (ltb x (vars_of s f)) (leb (params_of s f) x) (not (eqb (decl_count t n x) 1)))

-- the lowest below w of the numbers below v that pass u
module _ (u : ℕ → Bool) (v w : ℕ) (h : v ≤ w) where
  drop_test : (k : ℕ) → k < v → ltb k v && u k ≡ false → u k ≡ false
  drop_test k l q = rw (lt-ltb k v l) at q

  pub found_within : (x : ℕ) → x ≡ lowest (λ y. ltb y v && u y) w → x < w → At 0 x ≡ first_undeclared (lowest u v) v
  unfolding first_undeclared
  found_within x e l =
      let p : ltb x v && u x ≡ true = rw e (lowest_passes (λ y. ltb y v && u y) w (rw e at l)) in
      let m : x < v = ltb-true x v (and_left (ltb x v) (u x) p) in
      rw (lowest_at u v x m (λ k q. drop_test k (omega arith) (lowest_below (λ y. ltb y v && u y) w k (rw e at q))) (and_right (ltb x v) (u x) p), lt-ltb x v m)

  pub none_within : (x : ℕ) → x ≡ lowest (λ y. ltb y v && u y) w → w ≤ x → None ≡ first_undeclared (lowest u v) v
  unfolding first_undeclared
  none_within x e l =
      rw (lowest_none u v (λ k q. drop_test k q (lowest_below (λ y. ltb y v && u y) w k (rw e at (below_x k q)))), le-ltb v v (omega arith))
    where
      below_x : (k : ℕ) → k < v → k < x
      below_x k q = omega arith
