-- Tests on a node that are passed.
use mathlib.Core.Path.{◌≡◌, refl, sym, ◌∙◌}
use mathlib.Core.Bool.{true, false, ◌&&◌, or-true}
use mathlib.Core.List.{List, [], ◌∷◌}
use Prim.Native.Nat.{ℕ, zero, suc, ◌+◌, ◌-◌, ◌≤◌, ◌<◌}
use native.Mathlib.Omega.{arith}
use lib.Dec.{eqb, leb, ltb}
use borrow.Author.Tests.{eqb-true, leb-true, lt-ltb, le-ltb, eq-eqb}
use Rattle.varset.specs.Sets.{Set, has}
use Rattle.records.specs.Fields.{kind_at, b_at, size_at}
use Rattle.records.specs.Children.{arity_at, walk, children}
use Rattle.records.proofs.Bools.{and_left, and_right, or_more}
use Rattle.spec_language.specs.Sorts.{differ, is_expression, wants_expression, wrong_sort}
use Rattle.spec_language.specs.Types.{type_at, want_at, suits}
use Rattle.spec_language.specs.Nodes.{total, outside}
use Rattle.spec_language.specs.Statements.{statement_at}
use Rattle.spec_language.specs.Scopes.{uses_variable}
use Rattle.spec_language.specs.Known.{names_variable}
use Rattle.check_scopes.specs.Counts.{Named}
use Rattle.records.specs.Format.{most_variables}
use Rattle.check_effects.specs.declared.Effect.{Effect}
use Rattle.check_effects.specs.Effects.{statement_code, Means}
use Rattle.check_effects.proofs.Covering.{AllCovered, node_covered}
use Rattle.check_pass.specs.Judged.{Kid, Kids, Judged}

pub fits-is : (size a sum i : ℕ) → a ≡ size → (eqb a (1 + sum) && leb sum i) ≡ true → (size ≡ 1 + sum) × (sum ≤ i)
fits-is size a sum i e z = (sym e ∙ eqb-true a (1 + sum) (and_left (eqb a (1 + sum)) _ z), leb-true sum i (and_right (eqb a (1 + sum)) _ z))

-- a node with a child is not the first
pub positive : (t : List ℕ) (i b m : ℕ) → b ≡ i - 1 → size_at t i ≡ 1 + (size_at t b + m) → 0 < i
positive t zero b m q e = let z : size_at t b ≡ size_at t 0 = rw q in absurd (omega arith)
positive t (suc i) b m q e = omega arith

module _ (s : List ℕ) (f : ℕ) (t : List ℕ) (n i : ℕ) where
  sort_expression : (k c code : ℕ) → wants_expression (kind_at t i) k ≡ true → is_expression (kind_at t c) ≡ ltb code statement_code → code < statement_code → wrong_sort (kind_at t i) k (kind_at t c) ≡ false
  unfolding wrong_sort differ
  sort_expression k c code w e l = rw (w, e, lt-ltb code statement_code l)

  sort_statement : (k c code : ℕ) → wants_expression (kind_at t i) k ≡ false → is_expression (kind_at t c) ≡ ltb code statement_code → statement_code ≤ code → wrong_sort (kind_at t i) k (kind_at t c) ≡ false
  unfolding wrong_sort differ
  sort_statement k c code w e l = rw (w, e, le-ltb code statement_code l)

  -- a child that is an expression, of the type wanted
  pub kid_typed : {d : Set} {r : Effect} (k c want : ℕ) → wants_expression (kind_at t i) k ≡ true → want_at s f t n i k ≡ want → Judged s f t n d c r → r.code < statement_code → suits want r.code ≡ true
      → Kid s f t n i k c
  kid_typed {d} {r} k c want a b j l e = record { sort = sort_expression k c r.code a j.sort l; type = rw (b, j.type l) e }

  -- a child that is a statement
  pub kid_statement : {d : Set} {r : Effect} (k c : ℕ) → wants_expression (kind_at t i) k ≡ false → want_at s f t n i k ≡ 254 → Judged s f t n d c r → statement_code ≤ r.code → Kid s f t n i k c
  unfolding suits
  kid_statement {d} {r} k c a b j l = record { sort = sort_statement k c r.code a j.sort l; type = rw b }

  -- what an expression with these children reads is in r
  abbrev pub Gathered : ℕ → List ℕ → Type 0
  Gathered r cs = (kind_at t i ≡ 2 → has r (b_at t i) ≡ true) × AllCovered t (has r) cs

  pub judged : {d : Set} {r : Effect} (cs : List ℕ) → children t i ≡ cs → size_at t i ≡ 1 + total (size_at t) cs → total (size_at t) cs ≤ i → Kids s f t n i cs → outside s f t n i ≡ false
      → is_expression (kind_at t i) ≡ ltb r.code statement_code → (r.code < statement_code → type_at s f t n i ≡ r.code) → (r.code < statement_code → Gathered r.reads.0 cs) → Means (statement_at t i) d r
      → Judged s f t n d i r
  judged {d} {r} cs e a b c g h j o m =
      let a' : size_at t i ≡ 1 + total (size_at t) (children t i) = rw e a in
      let b' : total (size_at t) (children t i) ≤ i = rw e b in
      record {
        size = a';
        inside = b';
        kids = rw e c;
        scoped = g;
        sort = h;
        type = j;
        covers = λ l. node_covered t (has r.reads.0) i a' b' (o l).0 (rw e (o l).1);
        means = m;
      }

  pub no_children : arity_at t i ≡ 0 → children t i ≡ []
  unfolding children walk
  no_children e = rw e

  pub one_child : {b : ℕ} → arity_at t i ≡ 1 → b ≡ i - 1 → children t i ≡ b ∷ []
  unfolding children walk
  one_child e q = rw (e, q)

  pub two_children : {a b : ℕ} → arity_at t i ≡ 2 → b ≡ i - 1 → a ≡ b - size_at t b → children t i ≡ b ∷ a ∷ []
  unfolding children walk
  two_children e q o = rw (e, o, q)

  pub three_children : {a b c : ℕ} → arity_at t i ≡ 3 → b ≡ i - 1 → a ≡ b - size_at t b → c ≡ a - size_at t a → children t i ≡ b ∷ a ∷ c ∷ []
  unfolding children walk
  three_children e q o p = rw (e, p, o, q)

pub suits_same : (a b : ℕ) → a ≡ b → suits a b ≡ true
unfolding suits
suits_same a b e = rw (e, eq-eqb b b refl) (or-true (eqb b 254))

-- a variable that a node names is one of those that a function may have
pub named_variable : (t : List ℕ) (n i : ℕ) → Named t n → i < n → uses_variable (kind_at t i) ≡ true → b_at t i < most_variables
unfolding names_variable
named_variable t n i h l e = h i l (or_more (uses_variable (kind_at t i)) _ e)
