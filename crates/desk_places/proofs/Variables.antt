-- What question 13 names is a variable: a read without a value is a node of kind 2.
use mathlib.Core.Path.{◌≡◌, refl, ◌∙◌}
use mathlib.Core.Logic.{⊎_elim}
use mathlib.Core.Bool.{Bool, true, false}
use mathlib.Core.List.Memᴰ
use mathlib.Core.List.{List, ◌∷◌}
use Prim.Native.Nat.{ℕ, zero, suc}
use lib.Dec.{eqb}
use borrow.Author.Tests.{eqb-true}
use Rattle.varset.specs.Lowest.{pick}
use Rattle.varset.specs.Sets.{Set, without}
use Rattle.records.specs.Fields.{kind_at, b_at}
use Rattle.records.specs.Parts.{part_of}
use Rattle.spec_language.specs.Statements.{Shape, nop, seq, assign, decl, if, while, return, assert, expr, stray, read, reads_from, reads_of, grow, shape_at, statement_in, statement_at}
use Rattle.spec_language.specs.Flow.{leaves}
use Rattle.spec_language.specs.Check.{refused, check_of}
use Rattle.spec_language.proofs.Flows.{Listed}
use Rattle.spec_language.proofs.LowestRead.{Empty, Lacks}
use Rattle.spec_language.proofs.Verdicts.{LacksIn}
use Rattle.desk_places.specs.Located.{place_of}
use Rattle.desk_places.specs.declared.Place.TheVariants.{Node}
use Rattle.desk_places.proofs.Refusals.{NodeNamed, names_13}

module _ (t : List ℕ) (k : ℕ) where
  reads_kind : (m i v : ℕ) → Listed k v (reads_from t m i) → kind_at t k ≡ 2
  unfolding reads_from
  reads_kind zero i v l = absurd (Memᴰ.not-nil l)
  reads_kind (suc m) i v l = go (eqb (kind_at t i) 2) refl l (reads_kind m (suc i) v)
    where
      go : (b : Bool) → eqb (kind_at t i) 2 ≡ b → Listed k v (pick b (read i (b_at t i) ∷ reads_from t m (suc i)) (reads_from t m (suc i)))
          → (Listed k v (reads_from t m (suc i)) → kind_at t k ≡ 2) → kind_at t k ≡ 2
      go true e l rest = ⊎_elim (λ h. let z : k ≡ i = cc in rw z (eqb-true (kind_at t i) 2 e)) rest (Memᴰ.cases_cons l)
      go false e l rest = rest l

  empty_kind : (e : ℕ) (d : Set) → Empty (reads_of t e) d k → kind_at t k ≡ 2
  unfolding reads_of
  empty_kind e d w = reads_kind _ _ w.variable w.listed

  lacks_kind : (levels i : ℕ) (d : Set) → Lacks (statement_in t levels i) d k → kind_at t k ≡ 2
  unfolding statement_in grow
  lacks_kind zero i d w = absurd w
  lacks_kind (suc levels) zero d w = absurd w
  lacks_kind (suc levels) (suc i) d w = go (shape_at t (suc i)) w (lacks_kind levels)
    where
      go : (s : Shape) → Lacks (grow (reads_of t) (statement_in t levels) s) d k → ((j : ℕ) (c : Set) → Lacks (statement_in t levels j) c k → kind_at t k ≡ 2) → kind_at t k ≡ 2
      go nop w rec = absurd w
      go (seq a b) w rec = ⊎_elim (rec a d) (rec b (leaves (statement_in t levels a) d)) w
      go (assign x e) w rec = empty_kind e d w
      go (decl x a) w rec = rec a (without d x) w
      go (if e a b) w rec = ⊎_elim (empty_kind e d) (⊎_elim (rec a d) (rec b d)) w
      go (while e a) w rec = ⊎_elim (empty_kind e d) (rec a d) w
      go (return e) w rec = empty_kind e d w
      go (assert e) w rec = empty_kind e d w
      go (expr e) w rec = empty_kind e d w
      go stray w rec = absurd w

-- a node that reads a variable without a value is of kind 2
pub lacks_variable : (s : List ℕ) (f i : ℕ) → LacksIn s f i → kind_at (part_of s f) i ≡ 2
unfolding statement_at
lacks_variable s f i w = lacks_kind (part_of s f) i _ _ _ w

-- the place of a refusal by question 13 is located as a node of kind 2
module _ (s : List ℕ) (p x : ℕ) (e : check_of s ≡ refused 13 p x) where
  abbrev named : NodeNamed s (LacksIn s) p
  named = names_13 s p x e

  pub names_variable_lem : place_of s p ≡ Node named.function named.node 2
  names_variable_lem = named.located ∙ rw (lacks_variable s named.function named.node named.fails)
