-- What question 7 shows of a decl, and what the whole pass shows.
use Rattle.std.specs.Prelude.{Option, None}
use mathlib.Core.Path.{◌≡◌, sym, ◌∙◌}
use mathlib.Core.Bool.{true, not}
use mathlib.Core.List.{List}
use Prim.Native.Nat.{ℕ, ◌≤◌, ◌<◌}
use native.Mathlib.Omega.{arith}
use native.Mathlib.Nat.{le_antisymm}
use Rattle.varset.specs.Lowest.{lowest}
use Rattle.records.specs.Fields.{functions, vars_of, kind_at, a_at, b_at}
use Rattle.records.specs.Parts.{Laid}
use Rattle.records.specs.declared.Found.{Found}
use Rattle.records.proofs.Loops.{Below, first-none}
use Rattle.spec_language.specs.Nodes.{node_ok, undeclared, first_undeclared}
use Rattle.spec_language.proofs.Facts.{node_fields, decl_fields}
use Rattle.check_scopes.specs.Counts.{Noted}
use Rattle.check_pass.specs.Surveyed.{Surveyed}

module _ (s : List ℕ) (f : ℕ) (t : List ℕ) where
  pub decl_narrow : (i : ℕ) → Laid s → f < functions s → node_ok s f t i ≡ true → kind_at t i ≡ 9 → b_at t i < 64
  decl_narrow i g l e k = omega (arith, (decl_fields s f (a_at t i) (b_at t i) (rw k at (node_fields s f t i e))).2, g.vars f l)

  pub surveyed : (n i r : ℕ) (table : List ℕ) (found : Option Found) → n ≤ i → i ≤ n → Below (λ k. not (node_ok s f t k)) i → Noted t i table
      → found ≡ first_undeclared (lowest (undeclared s f t n) (vars_of s f)) (vars_of s f) → (10 < r → found ≡ None) → Surveyed s f t n table r
  surveyed n i r table found a b seven told e z =
      record { seven = sym (first-none _ n i a seven); ten = λ h. sym e ∙ z h; told = rw (le_antisymm a b) told.1 }
