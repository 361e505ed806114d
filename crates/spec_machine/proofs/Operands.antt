-- The types of a function's variables, and the operands of a node, as lists.
use mathlib.Core.Path.{◌≡◌, refl, ap, ◌∙◌}
use mathlib.Core.List.{List, [], ◌∷◌, ◌++◌, map, append-nil}
use Prim.Native.Nat.{ℕ, zero, suc, ◌+◌, ◌-◌, ◌≤◌, ◌<◌}
use native.Mathlib.Nat.{not-suc-le-zero}
use native.Mathlib.Omega.{arith}
use lib.ListN.{get_or, length}
use borrow.Author.Tests.{eq-eqb, ne_eqb}
use Rattle.records.proofs.Children.{length-walk}
use Rattle.records.specs.Fields.{size_at}
use Rattle.records.specs.Children.{arity_at, children}
use Rattle.spec_language.proofs.Tiles.{Each}
use Rattle.spec_language.proofs.Typings.{nth}
use Rattle.spec_machine.specs.File.{backwards, kids, types_from}
use Rattle.spec_machine.proofs.Accepted.{Real}

-- ---- the types of m variables from x on
module _ (type : ℕ → ℕ) where
  pub types_length : (m x : ℕ) → length (types_from type m x) ≡ m
  unfolding types_from
  types_length zero x = refl
  types_length (suc m) x = ap suc (types_length m (suc x))

  pub types_at : (m x i : ℕ) → i < m → get_or (types_from type m x) i 0 ≡ type (x + i)
  unfolding types_from
  types_at zero x i l = absurd (not-suc-le-zero l)
  types_at (suc m) x zero l = let e : x ≡ x + 0 = omega arith in ap type e
  types_at (suc m) x (suc i) l = let e : suc x + i ≡ x + suc i = omega arith in types_at m (suc x) i (omega arith) ∙ ap type e

  -- m variables and the k after them
  pub types_append : (m k v x y : ℕ) → v ≡ m + k → y ≡ x + m → types_from type m x ++ types_from type k y ≡ types_from type v x
  unfolding types_from
  types_append zero k v x y e q = let e' : v ≡ k = omega arith in let q' : y ≡ x = omega arith in rw (e', q')
  types_append (suc m) k zero x y e q = absurd (omega arith)
  types_append (suc m) k (suc v) x y e q = ap (λ (ts : List ℕ). type x ∷ ts) (types_append m k v (suc x) y (omega arith) (omega arith))

  types_snoc : (m x y : ℕ) (ts : List ℕ) → y ≡ x + m → types_from type m x ++ (type y ∷ ts) ≡ types_from type (suc m) x ++ ts
  unfolding types_from
  types_snoc zero x y ts e = let e' : y ≡ x = omega arith in rw e'
  types_snoc (suc m) x y ts e = ap (λ (us : List ℕ). type x ∷ us) (types_snoc m (suc x) y ts (omega arith))

  pub types_same : (other : ℕ → ℕ) (m x : ℕ) → ((k : ℕ) → x ≤ k → k < x + m → type k ≡ other k) → types_from type m x ≡ types_from other m x
  unfolding types_from
  types_same other zero x h = refl
  types_same other (suc m) x h = rw (h x (omega arith) (omega arith), types_same other m (suc x) (λ k p q. h k (omega arith) (omega arith)))

  pub types_real : (m x : ℕ) → ((k : ℕ) → x ≤ k → k < x + m → 1 ≤ type k) → Real (types_from type m x)
  unfolding types_from
  types_real zero x h = tt
  types_real (suc m) x h = (λ e. omega (arith, h x (omega arith) (omega arith)), types_real m (suc x) (λ k p q. h k (omega arith) (omega arith)))

-- ---- children, which stand the last first, and operands, the first first
nth_here : (c : ℕ) (cs : List ℕ) → nth (length cs) (c ∷ cs) ≡ c
unfolding nth
nth_here c cs = rw (eq-eqb (length cs) (length cs) refl)

nth_past : (c : ℕ) (cs : List ℕ) (k : ℕ) → k < length cs → nth k (c ∷ cs) ≡ nth k cs
unfolding nth
nth_past c cs k l = rw (ne_eqb k (length cs) (λ e. omega arith))

backwards_types : (type want : ℕ → ℕ) (cs acc : List ℕ) → ((k : ℕ) → k < length cs → type (nth k cs) ≡ want k)
    → map type (backwards cs acc) ≡ types_from want (length cs) 0 ++ map type acc
unfolding backwards types_from
backwards_types type want [] acc h = refl
backwards_types type want (c ∷ cs) acc h =
    let e : type c ≡ want (length cs) = rw (nth_here c cs) at (h (length cs) (omega arith)) in
    backwards_types type want cs (c ∷ acc) (λ k l. rw (nth_past c cs k l) at (h k (omega arith)))
    ∙ rw e (types_snoc want (length cs) 0 (length cs) (map type acc) (omega arith))

backwards_each : (Q : ℕ → Type 0) (cs acc : List ℕ) → ((k : ℕ) → k < length cs → Q (nth k cs)) → Each Q acc → Each Q (backwards cs acc)
unfolding backwards
backwards_each Q [] acc h a = a
backwards_each Q (c ∷ cs) acc h a =
    backwards_each Q cs (c ∷ acc) (λ k l. rw (nth_past c cs k l) at (h k (omega arith))) (rw (nth_here c cs) at (h (length cs) (omega arith)), a)

module _ (t : List ℕ) (i : ℕ) where
  children_length : length (children t i) ≡ arity_at t i
  unfolding children
  children_length = length-walk (size_at t) (arity_at t i) (i - 1)

  -- the operands' types are those of m variables, where each child's is
  pub kids_types : (type want : ℕ → ℕ) (m : ℕ) → arity_at t i ≡ m → ((k : ℕ) → k < m → type (nth k (children t i)) ≡ want k) → map type (kids t i) ≡ types_from want m 0
  unfolding kids
  kids_types type want m e h =
      let n : length (children t i) ≡ m = children_length ∙ e in
      backwards_types type want (children t i) [] (λ k l. h k (omega arith)) ∙ append-nil _ ∙ ap (λ (k : ℕ). types_from want k 0) n

  -- what each child is each operand is
  pub kids_each : (Q : ℕ → Type 0) → ((k : ℕ) → k < arity_at t i → Q (nth k (children t i))) → Each Q (kids t i)
  unfolding kids
  kids_each Q h = let n = children_length in backwards_each Q (children t i) [] (λ k l. h k (omega arith)) tt
