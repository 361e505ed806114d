-- The summary of a statement from those of its parts, for sets of any width.
use mathlib.Core.Path.{◌≡◌, refl, sym, ap, ◌∙◌}
use mathlib.Core.Bool.{Bool, true, false, not, ◌&&◌, ◌||◌}
use mathlib.Core.List.{List}
use mathlib.Core.Logic.{◌↔◌}
use Prim.Native.Nat.{ℕ}
use lib.Dec.{eqb}
use borrow.Author.Tests.{eqb-true, eq-eqb, not-true}
use Rattle.varset.specs.Sets.{Set, has, none, with, without, both, either, less, below, Sub}
use Rattle.records.specs.Format.{most_variables}
use Rattle.records.proofs.Bools.{and_left, and_right, and_both, or_more, by, or_cases, clash, or_last}
use Rattle.spec_language.specs.Statements.{Read, Statement, Nop, Seq, Assign, Decl, If, While, Return, Assert, Expr}
use Rattle.spec_language.specs.Flow.{declares, leaves, returns}
use Rattle.spec_language.proofs.Flows.{ok_nop, ok_seq, ok_assign, ok_decl, ok_if, ok_while, ok_return, ok_assert, ok_expr}
use Rattle.check_summary.specs.Summary.{Needs, Summary}
use Rattle.check_summary.proofs.SetTables.{in_turn, in_branches, in_scope, as_found, adding, dropping}

empty_sub : (e : Set) (n : ℕ) → has n ≡ none → Sub (has n) e
unfolding none
empty_sub e n h x l = clash (has n x) l (ap (λ (t : Set). t x) h)

-- ---- statements without parts that leave what they found

module _ (fails returned : Bool) (needs adds drops declared : ℕ) (f : fails ≡ false) (a : has adds ≡ none) (p : has drops ≡ none) (c : has declared ≡ none) where
  -- the set as it was found
  kept : (d : Set) → d ≡ either (less d (has drops)) (has adds)
  unfolding either less none
  kept d = rw (p, a) (λ k x. as_found (d x) k)

  pub nop_summary : has needs ≡ none → returned ≡ false → Summary Nop fails returned needs adds drops declared
  unfolding declares leaves returns
  nop_summary n r =
      record { enough = λ h d k. ok_nop d; wanted = λ d l. (f, empty_sub d needs n); leaving = kept; declaring = sym c; returning = sym r }

  module _ (e : List Read) (n : Needs e needs) where
    pub assert_summary : returned ≡ false → Summary (Assert e) fails returned needs adds drops declared
    unfolding declares leaves returns
    assert_summary r =
        record { enough = λ h d k. (ok_assert d e).1 (n.enough d k); wanted = λ d l. (f, n.wanted d ((ok_assert d e).0 l)); leaving = kept; declaring = sym c; returning = sym r }

    pub expr_summary : returned ≡ false → Summary (Expr e) fails returned needs adds drops declared
    unfolding declares leaves returns
    expr_summary r =
        record { enough = λ h d k. (ok_expr d e).1 (n.enough d k); wanted = λ d l. (f, n.wanted d ((ok_expr d e).0 l)); leaving = kept; declaring = sym c; returning = sym r }

pub return_summary : (e : List Read) (fails returned : Bool) (needs adds drops declared : ℕ) → Needs e needs → fails ≡ false → returned ≡ true
    → has adds ≡ below most_variables → has drops ≡ none → has declared ≡ none → Summary (Return e) fails returned needs adds drops declared
unfolding declares leaves returns either less none
return_summary e fails returned needs adds drops declared n f r a p c =
    record {
      enough = λ h d k. (ok_return d e).1 (n.enough d k);
      wanted = λ d l. (f, n.wanted d ((ok_return d e).0 l));
      leaving = λ d. rw (p, a) (λ k x. adding (d x) (below most_variables x) k);
      declaring = sym c;
      returning = sym r;
    }

pub assign_summary : (x : ℕ) (e : List Read) (fails returned : Bool) (needs adds drops declared : ℕ) → Needs e needs → fails ≡ false → returned ≡ false
    → has adds ≡ with none x → has drops ≡ none → has declared ≡ none → Summary (Assign x e) fails returned needs adds drops declared
unfolding declares leaves returns with either less none
assign_summary x e fails returned needs adds drops declared n f r a p c =
    record {
      enough = λ h d k. (ok_assign d x e).1 (n.enough d k);
      wanted = λ d l. (f, n.wanted d ((ok_assign d x e).0 l));
      leaving = λ d. rw (p, a) (λ k y. adding (d y) (eqb y x) k);
      declaring = sym c;
      returning = sym r;
    }

-- ---- one statement after another

module _ {s u : Statement} {f₁ r₁ f₂ r₂ : Bool} {n₁ a₁ d₁ c₁ n₂ a₂ d₂ c₂ : ℕ} (p : Summary s f₁ r₁ n₁ a₁ d₁ c₁) (q : Summary u f₂ r₂ n₂ a₂ d₂ c₂) where
  -- what the first leaves, at a variable
  left_at : (d : Set) (x : ℕ) → leaves s d x ≡ ((d x && not (has d₁ x)) || has a₁ x)
  unfolding either less
  left_at d x = ap (λ (t : Set). t x) (p.leaving d)

  -- what the second needs and the first does not add was there, and is not dropped
  there : (d : Set) (x : ℕ) → leaves s d x ≡ true → has a₁ x ≡ false → (d x ≡ true) × (has d₁ x ≡ false)
  there d x l e =
      let b : ((d x && not (has d₁ x)) || has a₁ x) ≡ true = sym (left_at d x) ∙ l in
      or_cases (d x && not (has d₁ x)) (has a₁ x) b
      (λ y. (and_left (d x) _ y, not-true (has d₁ x) (and_right (d x) _ y)))
      (λ y. clash (has a₁ x) y e)

  -- a variable that the second needs, the first drops and does not add
  abbrev Lost : Set
  Lost = both (less (has n₂) (has a₁)) (has d₁)

  found : (d : Set) → Lost ≡ none → Sub (has n₁) d → Sub (less (has n₂) (has a₁)) d → Sub (has n₂) (leaves s d)
  unfolding both less none
  found d e h k x l =
      rw (left_at d x)
      (by (has a₁ x) (λ y. or_last (d x && not (has d₁ x)) _ y)
      (λ y.
      let z : (has n₂ x && not (has a₁ x)) ≡ true = and_both (has n₂ x) _ l (rw y) in
      let o : has d₁ x ≡ false = by (has d₁ x) (λ t. clash (both (less (has n₂) (has a₁)) (has d₁) x) (and_both _ (has d₁ x) z t) (ap (λ (t : Set). t x) e)) (λ t. t) in
      or_more (d x && not (has d₁ x)) _ (and_both (d x) _ (k x z) (rw o))))

  lost_none : (d : Set) → Sub (has n₂) (leaves s d) → Lost ≡ none
  unfolding both less none
  lost_none d h = λ k x. at x k
    where
      at : (x : ℕ) → ((has n₂ x && not (has a₁ x)) && has d₁ x) ≡ false
      at x =
          by ((has n₂ x && not (has a₁ x)) && has d₁ x)
          (λ t.
          let z = and_left (has n₂ x && not (has a₁ x)) _ t in
          let y = not-true (has a₁ x) (and_right (has n₂ x) _ z) in
          clash (has d₁ x) (and_right (has n₂ x && not (has a₁ x)) _ t) (there d x (h x (and_left (has n₂ x) _ z)) y).1)
          (λ t. t)

  pub sequence_summary : {fails returned : Bool} {needs adds drops declared : ℕ} → (fails ≡ false ↔ ((f₁ ≡ false) × (f₂ ≡ false) × (Lost ≡ none)))
      → has needs ≡ either (has n₁) (less (has n₂) (has a₁)) → has adds ≡ either (less (has a₁) (has d₂)) (has a₂) → has drops ≡ either (has d₁) (has d₂)
      → has declared ≡ either (has c₁) (has c₂) → returned ≡ (r₁ || r₂) → Summary (Seq s u) fails returned needs adds drops declared
  unfolding declares leaves returns either less
  sequence_summary w n a o c r =
      record {
        enough =
            λ h d k.
            let v = w.0 h in
            let z : Sub (has n₁) d = λ x l. k x (rw n (or_more (has n₁ x) _ l)) in
            let y : Sub (less (has n₂) (has a₁)) d = λ x l. k x (rw n (or_last (has n₁ x) _ l)) in
            (ok_seq d s u).1 (p.enough v.0 d z, q.enough v.1 (leaves s d) (found d v.2 z y));
        wanted =
            λ d l.
            let t = (ok_seq d s u).0 l in
            let z = p.wanted d t.0 in
            let y = q.wanted (leaves s d) t.1 in (
              w.1 (z.0, y.0, lost_none d y.1),
              λ x m. or_cases (has n₁ x) (has n₂ x && not (has a₁ x)) (rw n at m) (z.1 x)
                  (λ b. (there d x (y.1 x (and_left (has n₂ x) _ b)) (not-true (has a₁ x) (and_right (has n₂ x) _ b))).0),
            );
        leaving = λ d. q.leaving (leaves s d) ∙ rw (p.leaving d, a, o) (λ k x. in_turn (d x) (has d₁ x) (has a₁ x) (has d₂ x) (has a₂ x) k);
        declaring = rw (p.declaring, q.declaring, c);
        returning = rw (p.returning, q.returning, r);
      }

  -- ---- two branches after a condition

  pub branches_summary : {e : List Read} (c₀ : ℕ) {fails returned : Bool} {needs adds drops declared : ℕ} → Needs e c₀ → (fails ≡ false ↔ ((f₁ ≡ false) × (f₂ ≡ false)))
      → has needs ≡ either (has c₀) (either (has n₁) (has n₂)) → has adds ≡ both (has a₁) (has a₂)
      → has drops ≡ either (less (has d₁) (has a₁)) (less (has d₂) (has a₂)) → has declared ≡ either (has c₁) (has c₂) → returned ≡ (r₁ && r₂)
      → Summary (If e s u) fails returned needs adds drops declared
  unfolding declares leaves returns either less both
  branches_summary {e} c₀ o w n a b c r =
      record {
        enough =
            λ h d k.
            let v = w.0 h in
            (ok_if d e s u).1 (
              o.enough d (λ x l. k x (rw n (or_more (has c₀ x) _ l))),
              p.enough v.0 d (λ x l. k x (rw n (or_last (has c₀ x) _ (or_more (has n₁ x) _ l)))),
              q.enough v.1 d (λ x l. k x (rw n (or_last (has c₀ x) _ (or_last (has n₁ x) _ l)))),
            );
        wanted =
            λ d l.
            let t = (ok_if d e s u).0 l in
            let z = p.wanted d t.1 in
            let y = q.wanted d t.2 in (
              w.1 (z.0, y.0),
              λ x m. or_cases (has c₀ x) (has n₁ x || has n₂ x) (rw n at m) (o.wanted d t.0 x) (λ g. or_cases (has n₁ x) (has n₂ x) g (z.1 x) (y.1 x)),
            );
        leaving = λ d. rw (p.leaving d, q.leaving d, a, b) (λ k x. in_branches (d x) (has d₁ x) (has a₁ x) (has d₂ x) (has a₂ x) k);
        declaring = rw (p.declaring, q.declaring, c);
        returning = rw (p.returning, q.returning, r);
      }

-- ---- a loop's body after its condition, and a statement in the scope of x

module _ {s : Statement} {f₁ r₁ : Bool} {n₁ a₁ d₁ c₁ : ℕ} (p : Summary s f₁ r₁ n₁ a₁ d₁ c₁) where
  pub loop_summary : {e : List Read} (c₀ : ℕ) {fails returned : Bool} {needs adds drops declared : ℕ} → Needs e c₀ → fails ≡ f₁ → has needs ≡ either (has c₀) (has n₁)
      → has adds ≡ none → has drops ≡ has c₁ → has declared ≡ has c₁ → returned ≡ false → Summary (While e s) fails returned needs adds drops declared
  unfolding declares leaves returns either less none
  loop_summary {e} c₀ o w n a b c r =
      record {
        enough = λ h d k. (ok_while d e s).1 (o.enough d (λ x l. k x (rw n (or_more (has c₀ x) _ l))), p.enough (sym w ∙ h) d (λ x l. k x (rw n (or_last (has c₀ x) _ l))));
        wanted =
            λ d l.
            let t = (ok_while d e s).0 l in
            let z = p.wanted d t.1 in
            (w ∙ z.0, λ x m. or_cases (has c₀ x) (has n₁ x) (rw n at m) (o.wanted d t.0 x) (z.1 x));
        leaving = λ d. rw (p.declaring, a, b) (λ k x. dropping (d x) (has c₁ x) k);
        declaring = p.declaring ∙ sym c;
        returning = sym r;
      }

  pub scope_summary : (x : ℕ) {fails returned : Bool} {needs adds drops declared : ℕ} → (fails ≡ false ↔ ((f₁ ≡ false) × (has n₁ x ≡ false))) → has needs ≡ has n₁
      → has adds ≡ without (has a₁) x → has drops ≡ with (has d₁) x → has declared ≡ with (has c₁) x → returned ≡ r₁ → Summary (Decl x s) fails returned needs adds drops declared
  unfolding declares leaves returns either less with without
  scope_summary x w n a b c r =
      record {
        enough =
            λ h d k.
            let v = w.0 h in
            (ok_decl d x s).1 (p.enough v.0 (without d x)
            (λ y l. and_both (d y) _ (k y (rw n l)) (by (eqb y x) (λ t. clash (has n₁ y) l (rw (eqb-true y x t) v.1)) (λ z. rw z))));
        wanted =
            λ d l.
            let z = p.wanted (without d x) ((ok_decl d x s).0 l) in (
              w.1 (z.0, by (has n₁ x) (λ t. clash (not (eqb x x)) (and_right (d x) _ (z.1 x t)) (rw (same x))) (λ t. t)),
              λ y m. and_left (d y) _ (z.1 y (rw n at m)),
            );
        leaving = λ d. rw (p.leaving (without d x), a, b) (λ k y. in_scope (d y) (eqb y x) (has d₁ y) (has a₁ y) k);
        declaring = rw (p.declaring, c);
        returning = p.returning ∙ sym r;
      }
    where
      same : (y : ℕ) → eqb y y ≡ true
      same y = eq-eqb y y refl
