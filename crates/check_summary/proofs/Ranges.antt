-- The reads of the nodes of a range, and of an expression's subtree.
use mathlib.Core.Path.{◌≡◌, refl, ap}
use mathlib.Core.Bool.{true}
use mathlib.Core.List.{List}
use Prim.Native.Nat.{ℕ, ◌+◌, ◌-◌, ◌≤◌, ◌<◌}
use native.Mathlib.Omega.{arith}
use native.Mathlib.Decide.{dec_lt}
use lib.Dec.{eqb}
use borrow.Author.Tests.{eqb-true, eq-eqb}
use Rattle.varset.specs.Sets.{Set, has, none, with, either, Sub}
use Rattle.records.specs.Fields.{kind_at, b_at, size_at}
use Rattle.records.proofs.Bools.{or_cases, or_more, clash, or_last}
use Rattle.spec_language.specs.Statements.{reads_of}
use Rattle.spec_language.proofs.Subtrees.{reads_nodes_lem}
use Rattle.check_summary.specs.Summary.{Needs}
use Rattle.check_summary.specs.Tables.{Range}

-- a node that reads no variable
pub none_read : (t : List ℕ) (i w : ℕ) → (kind_at t i ≡ 2 → ⊥) → has w ≡ none → Range t i (i + 1) w
unfolding none
none_read t i w n e =
    record {
      enough = λ d k j a b c. let q : j ≡ i = omega arith in absurd (n (rw q at c));
      wanted = λ d k x l. clash (has w x) l (ap (λ (s : Set). s x) e);
    }

-- a node that reads one
pub one_read : (t : List ℕ) (i w : ℕ) → kind_at t i ≡ 2 → has w ≡ with none (b_at t i) → Range t i (i + 1) w
unfolding none with
one_read t i w n e =
    record {
      enough = λ d k j a b c. let q : j ≡ i = omega arith in rw q (k (b_at t i) (rw e (eq-eqb (b_at t i) (b_at t i) refl)));
      wanted = λ d k x l. let q : eqb x (b_at t i) ≡ true = rw e at l in rw (eqb-true x (b_at t i) q) (k i (omega arith) (omega arith) n);
    }

-- the range before joined to a range
pub joined : (t : List ℕ) (lo mid hi a b w : ℕ) → lo ≤ mid → mid ≤ hi → Range t mid hi a → Range t lo mid b → has w ≡ either (has a) (has b) → Range t lo hi w
unfolding either
joined t lo mid hi a b w l' m p q e =
    record {
      enough = λ d k j u v c. near d k j u v c (dec_lt j mid);
      wanted =
          λ d k x l. or_cases (has a x) (has b x) (rw e at l) (p.wanted d (λ j u v c. k j (omega (arith, u, l')) v c) x) (q.wanted d (λ j u v c. k j u (omega (arith, v, m)) c) x);
    }
  where
    near : (d : Set) → Sub (has w) d → (j : ℕ) → lo ≤ j → j < hi → kind_at t j ≡ 2 → Dec (j < mid) → d (b_at t j) ≡ true
    near d k j u v c (yes r) = q.enough d (λ x l. k x (rw e (or_last (has a x) _ l))) j u r c
    near d k j u v c (no r) = p.enough d (λ x l. k x (rw e (or_more (has a x) _ l))) j (omega (arith, r)) v c

-- a subtree is a range
pub range_needs : (t : List ℕ) (i w : ℕ) → size_at t i ≤ i + 1 → Range t (i + 1 - size_at t i) (i + 1) w → Needs (reads_of t i) w
range_needs t i w z r =
    record {
      enough = λ d k. (reads_nodes_lem t d i z).1 (λ j a b c. r.enough d k j (omega arith) (omega arith) c);
      wanted = λ d k. r.wanted d (λ j a b c. (reads_nodes_lem t d i z).0 k j (omega arith) (omega arith) c);
    }

pub needs_range : (t : List ℕ) (i w : ℕ) → size_at t i ≤ i + 1 → Needs (reads_of t i) w → Range t (i + 1 - size_at t i) (i + 1) w
needs_range t i w z r =
    record {
      enough = λ d k j a b c. (reads_nodes_lem t d i z).0 (r.enough d k) j (omega arith) (omega arith) c;
      wanted = λ d k. r.wanted d ((reads_nodes_lem t d i z).1 (λ j a b c. k j (omega arith) (omega arith) c));
    }
