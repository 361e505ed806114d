-- The test of each node says what Known says of all.
use mathlib.Core.Path.{◌≡◌, refl}
use mathlib.Core.Bool.{Bool, true, false, not, ◌&&◌, ◌||◌}
use mathlib.Core.List.{List}
use Prim.Native.Nat.{ℕ, ◌+◌, ◌<◌}
use native.Mathlib.Omega.{arith}
use lib.Dec.{eqb, leb, ltb}
use borrow.Author.Tests.{eqb-true, eqb-false, eq-eqb, ltb-true, lt-ltb, leb-true, le-leb}
use Rattle.records.specs.Fields.{kind_at, a_at, b_at, size_at}
use Rattle.records.specs.Children.{arity_at}
use Rattle.records.specs.Format.{most_parameters, most_variables}
use Rattle.records.proofs.Bools.{and_left, and_right, and_both, or_more, or_last, or_cases, by, clash}
use Rattle.spec_language.specs.Known.{Known, names_variable}
use Rattle.desk_ways.specs.KnownNode.{known_node}

-- an implication as a test
implied : (a b : Bool) → not a || b ≡ true → a ≡ true → b ≡ true
implied true b e h = e
implied false b e h = clash false h refl

implies : (a b : Bool) → (a ≡ true → b ≡ true) → not a || b ≡ true
implies true b f = f refl
implies false b f = refl

all_four : (a b c d : Bool) → (a && (b && (c && d))) ≡ true → (a ≡ true) × (b ≡ true) × (c ≡ true) × (d ≡ true)
all_four a b c d e =
    let p = and_right a (b && (c && d)) e in
    let q = and_right b (c && d) p in
    (and_left a _ e, and_left b _ p, and_left c d q, and_right c d q)

module _ (t : List ℕ) (n : ℕ) where
  pub tests_known : ((i : ℕ) → i < n → known_node t i ≡ true) → Known t n
  unfolding known_node
  tests_known h =
      record {
        child = λ i l p. or_cases (eqb (arity_at t i) 0) (ltb 0 i) (four i l).0 (λ e. absurd (omega (arith, eqb-true (arity_at t i) 0 e))) (λ e. ltb-true 0 i e);
        sized = λ i l. leb-true _ _ (four i l).1;
        variable = λ i l e. ltb-true _ _ (implied _ _ (four i l).2 e);
        arguments = λ i l e. leb-true _ _ (implied _ _ (four i l).3 (eq-eqb _ _ e));
      }
    where
      four : (i : ℕ) → i < n
          → (eqb (arity_at t i) 0 || ltb 0 i ≡ true) × (leb (size_at t i) (i + 1) ≡ true)
          × (not (names_variable (kind_at t i)) || ltb (b_at t i) most_variables ≡ true) × (not (eqb (kind_at t i) 5) || leb (a_at t i) most_parameters ≡ true)
      four i l =
          all_four (eqb (arity_at t i) 0 || ltb 0 i) (leb (size_at t i) (i + 1)) (not (names_variable (kind_at t i)) || ltb (b_at t i) most_variables)
          (not (eqb (kind_at t i) 5) || leb (a_at t i) most_parameters) (h i l)

  pub known_tests : Known t n → (i : ℕ) → i < n → known_node t i ≡ true
  unfolding known_node
  known_tests h i l =
      and_both _ _ (first (arity_at t i) (h.child i l))
      (and_both _ _ (le-leb _ _ (h.sized i l))
      (and_both _ _ (implies (names_variable (kind_at t i)) _ (λ e. lt-ltb _ _ (h.variable i l e)))
      (implies (eqb (kind_at t i) 5) _ (λ e. le-leb _ _ (h.arguments i l (eqb-true _ _ e))))))
    where
      first : (a : ℕ) → (0 < a → 0 < i) → eqb a 0 || ltb 0 i ≡ true
      first a f = by (eqb a 0) (λ e. or_more (eqb a 0) (ltb 0 i) e) (λ e. or_last (eqb a 0) (ltb 0 i) (lt-ltb 0 i (f (omega (arith, eqb-false a 0 e)))))

  -- so where a node fails its test, the part is not known
  pub failing_test : (k : ℕ) × (k < n) × (known_node t k ≡ false) → (false ≡ true → Known t n) × (Known t n → false ≡ true)
  failing_test f = (λ e. clash false e refl, λ h. clash (known_node t f.0) (known_tests h f.0 f.1) f.2)
