-- One step of a walk over the reads of an expression.
use Rattle.std.specs.Prelude.{Option, None}
use mathlib.Core.Path.{◌≡◌, refl, ◌∙◌}
use mathlib.Core.Bool.{Bool, true, false, not, ◌&&◌}
use mathlib.Core.List.{List, ◌∷◌}
use Prim.Native.Nat.{ℕ, suc, ◌+◌, ◌-◌, ◌≤◌, ◌<◌}
use native.Mathlib.Omega.{arith}
use native.Mathlib.Numerals.{add-one}
use lib.Dec.{eqb}
use Rattle.records.specs.Search.{At}
use Rattle.varset.specs.Lowest.{pick}
use Rattle.varset.specs.Sets.{Set}
use Rattle.records.specs.Fields.{kind_at, b_at, size_at}
use Rattle.records.specs.declared.Found.{Found}
use Rattle.spec_language.specs.Statements.{Read, read, reads_from, reads_of}
use Rattle.spec_language.specs.Flow.{missing}

module _ (t : List ℕ) (d : Set) (e : ℕ) where
  -- what the nodes from i to e read that is not in d
  abbrev rest : ℕ → Option Found
  rest i = missing (reads_from t (e + 1 - i) i) d

  pub rest_all : (i : ℕ) → size_at t e ≤ e + 1 → i ≡ e + 1 - size_at t e → rest i ≡ missing (reads_of t e) d
  unfolding reads_of
  rest_all i l q =
      let z : e + 1 - i ≡ size_at t e = omega arith in
      rw (z, q)

  step : (i : ℕ) → i ≤ e → rest i ≡ pick (eqb (kind_at t i) 2 && not (d (b_at t i))) (At i 0) (rest (i + 1))
  unfolding reads_from missing
  step i l =
      let z : e + 1 - i ≡ suc (e + 1 - suc i) = omega arith in
      rw (z, add-one i) (by_kind (eqb (kind_at t i) 2) (reads_from t (e + 1 - suc i) (suc i)))
    where
      swap : (h : Bool) (a b : Option Found) → pick h a b ≡ pick (not h) b a
      swap true a b = refl
      swap false a b = refl

      by_kind : (k : Bool) (rs : List Read) → missing (pick k (read i (b_at t i) ∷ rs) rs) d ≡ pick (k && not (d (b_at t i))) (At i 0) (missing rs d)
      by_kind true rs = swap (d (b_at t i)) (missing rs d) (At i 0)
      by_kind false rs = refl

  pub rest_found : (i : ℕ) (b : Bool) → i ≤ e → b ≡ eqb (kind_at t i) 2 && not (d (b_at t i)) → b ≡ true → rest i ≡ At i 0
  rest_found i b l q z = step i l ∙ rw (← q, z)

  pub rest_on : (i : ℕ) (b : Bool) → i ≤ e → b ≡ eqb (kind_at t i) 2 && not (d (b_at t i)) → b ≡ false → rest i ≡ rest (i + 1)
  rest_on i b l q z = step i l ∙ rw (← q, z)

  pub rest_none : (i : ℕ) → e < i → rest i ≡ None
  unfolding reads_from missing
  rest_none i l = let z : e + 1 - i ≡ 0 = omega arith in rw z
