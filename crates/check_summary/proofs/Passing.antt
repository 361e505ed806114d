-- How values flow through a statement, by its summary.
use Rattle.std.specs.Prelude.{Some, Option, None}
use mathlib.Core.Path.{◌≡◌, refl, sym, ap, ◌∙◌}
use mathlib.Core.Bool.{Bool, true, false, not, ◌&&◌}
use mathlib.Core.List.{List}
use mathlib.Core.Logic.{◌↔◌}
use Prim.Native.Nat.{ℕ}
use borrow.Author.Tests.{not-true}
use Rattle.varset.specs.Sets.{Set, has, none, either, less, Sub}
use Rattle.records.specs.declared.Found.{Found}
use Rattle.records.proofs.Bools.{and_left, and_right, and_both, by, clash}
use Rattle.spec_language.specs.Statements.{Read, Statement}
use Rattle.spec_language.specs.Flow.{missing, lacks}
use Rattle.records.specs.Search.{clear}
use Rattle.check_summary.specs.Summary.{Needs, Summary}
use Rattle.check_summary.specs.declared.Flowed.{Flowed}
use Rattle.check_summary.specs.Flowed.{FlowedIs}

-- nothing is left over exactly where one set is within another
pub within_is : (a b : Set) → (less a b ≡ none) ↔ Sub a b
unfolding less none
within_is a b = (
  λ e x l. by (b x) (λ y. y) (λ y. clash (a x && not (b x)) (and_both (a x) _ l (rw y)) (ap (λ (t : Set). t x) e)),
  λ h. λ k x. at h x k,
)
  where
    at : Sub a b → (x : ℕ) → (a x && not (b x)) ≡ false
    at h x = by (a x && not (b x)) (λ y. clash (b x) (h x (and_left (a x) _ y)) (not-true (b x) (and_right (a x) _ y))) (λ y. y)

-- a test that says whether a search found nothing
found_nothing : (r : Bool) (found : Option Found) → (r ≡ true ↔ (found ≡ None)) → r ≡ clear found
found_nothing true found h = sym (rw (h.0 refl) refl)
found_nothing false (Some found) h = refl
found_nothing false None h = h.1 refl

pub held_is : {rs : List Read} {needs : ℕ} {r : Bool} (d : Set) → Needs rs needs → (r ≡ true ↔ Sub (has needs) d) → r ≡ clear (missing rs d)
held_is {rs} {needs} {r} d n h = found_nothing r (missing rs d) (λ e. n.enough d (h.0 e), λ e. h.1 (n.wanted d e))

pub goes_by : {s : Statement} {fails returned held : Bool} {needs adds drops declared : ℕ} (d : Set) (r : Flowed) → Summary s fails returned needs adds drops declared
    → (held ≡ true ↔ Sub (has needs) d) → r.ok ≡ (not fails && held) → has r.left.0 ≡ either (less d (has drops)) (has adds) → FlowedIs s d r
goes_by {s} {fails} {returned} {held} d r p h e l =
    record {
      ok =
          e ∙ found_nothing (not fails && held) (lacks s d) (
            λ y. p.enough (not-true fails (and_left (not fails) _ y)) d (h.0 (and_right (not fails) _ y)),
            λ y. let w = p.wanted d y in and_both (not fails) _ (rw w.0) (h.1 w.1),
          );
      left = l ∙ sym (p.leaving d);
    }
