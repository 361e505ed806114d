-- The row of a statement of each kind, from the rows of its children.
use mathlib.Core.Path.{◌≡◌, refl, ◌∙◌}
use mathlib.Core.Bool.{Bool, true, false}
use mathlib.Core.List.{List}
use Prim.Native.Nat.{ℕ, ◌+◌, ◌-◌, ◌<◌}
use native.Mathlib.Omega.{arith}
use Rattle.varset.specs.Sets.{has, none, with, below}
use Rattle.records.specs.Format.{most_variables}
use Rattle.varset.specs.declared.VarSet.{VarSet}
use Rattle.records.specs.Fields.{kind_at, a_at, b_at, size_at}
use Rattle.records.specs.Children.{arity_of, arities}
use Rattle.spec_language.specs.Sorts.{is_expression, wants_expression}
use Rattle.spec_language.specs.KindLists.{is_statement}
use Rattle.spec_language.specs.Statements.{Read, Statement, Seq, Decl, If, While, last, prior, reads_of, statement_at}
use Rattle.spec_language.proofs.Subtrees.{back, child_at, kid-placed}
use Rattle.spec_language.proofs.Trees.{statement_seq, statement_assign, statement_decl, statement_if, statement_while, statement_return, statement_assert, statement_expr, statement_rest}
use Rattle.check_summary.specs.Summary.{Needs}
use Rattle.check_summary.proofs.SummaryParts.{nop_summary, return_summary, assert_summary, expr_summary, assign_summary}
use Rattle.check_summary.specs.declared.rows.Row.{Row}
use Rattle.check_summary.specs.Rows.{Sums}
use Rattle.spec_language.specs.Known.{WellFormed}
use Rattle.check_summary.specs.Tables.{word_of, fails_in, returns_in, RowSays, RowsFilled}
use Rattle.check_summary.proofs.Filling.{sizes}

-- a row as the table has it
abbrev pub RowIs : Row → List ℕ → ℕ → Type 0
RowIs r table k =
    ((r.fails ≡ fails_in (word_of table k 0)) × (r.returned ≡ returns_in (word_of table k 0)))
    × ((r.needs.0 ≡ word_of table k 1) × (r.adds.0 ≡ word_of table k 2) × (r.drops.0 ≡ word_of table k 3) × (r.declared.0 ≡ word_of table k 4))

pub row_sums : {s : Statement} {r : Row} (table : List ℕ) (k : ℕ) → RowIs r table k → RowSays s table k → Sums s r
row_sums table k e h = rw (e.0.0, e.0.1, e.1.0, e.1.1, e.1.2, e.1.3) h

-- a row of a statement without parts, as the code makes it
abbrev pub PlainIs : Row → VarSet → VarSet → Bool → Type 0
PlainIs r needs adds returned =
    ((r.fails ≡ false) × (r.returned ≡ returned) × (r.needs ≡ needs) × (r.adds ≡ adds)) × ((has r.drops.0 ≡ none) × (has r.declared.0 ≡ none))

module _ {t : List ℕ} {n : ℕ} (p : WellFormed t n) {i : ℕ} (l : i < n) where
  pub sorted : (i kind j m : ℕ) → i < n → kind_at t i ≡ kind → arity_of kind (a_at t i) ≡ 1 + j + m → is_expression (kind_at t (back t j (last i))) ≡ wants_expression kind m
  sorted = kid-placed t n (sizes p) p.placed

  pub kid : (kind j m : ℕ) → kind_at t i ≡ kind → arity_of kind (a_at t i) ≡ 1 + j + m → back t j (last i) < i
  kid kind j m e a = (child_at t n (sizes p) i kind j m l e a).below

  -- a statement with children has one right before it
  pub after_one : (kind m : ℕ) → kind_at t i ≡ kind → arity_of kind (a_at t i) ≡ 1 + 0 + m → 0 < i
  unfolding last
  after_one kind m e a = omega (arith, kid kind 0 m e a)

  module _ (table : List ℕ) (o : RowsFilled t table i) (r : Row) where
    pub seq_arm : {a b : Row} {k : ℕ} → kind_at t i ≡ 7 → k ≡ i - 1 - size_at t (i - 1) → RowIs a table k → RowIs b table (i - 1)
        → ((s u : Statement) → Sums s a → Sums u b → Sums (Seq s u) r) → Sums (statement_at t i) r
    unfolding arity_of arities last prior wants_expression
    seq_arm e q x y g =
        rw (statement_seq t i e (after_one 7 1 e refl))
        (g _ _ (row_sums table _ (rw q at x) (o.flows _ (kid 7 1 0 e refl) (sorted i 7 1 0 l e refl))) (row_sums table _ y (o.flows _ (kid 7 0 1 e refl) (sorted i 7 0 1 l e refl))))

    pub decl_arm : {a : Row} {x : ℕ} → kind_at t i ≡ 9 → x ≡ b_at t i → RowIs a table (i - 1) → ((s : Statement) → Sums s a → Sums (Decl x s) r) → Sums (statement_at t i) r
    unfolding arity_of arities last wants_expression
    decl_arm e q x g = rw (statement_decl t i e (after_one 9 0 e refl), ← q) (g _ (row_sums table _ x (o.flows _ (kid 9 0 0 e refl) (sorted i 9 0 0 l e refl))))

    pub if_arm : {a b : Row} {w k j : ℕ} → kind_at t i ≡ 10 → k ≡ i - 1 - size_at t (i - 1) → j ≡ k - size_at t k → w ≡ word_of table j 1 → RowIs a table k → RowIs b table (i - 1)
        → ((e : List Read) (s u : Statement) → Needs e w → Sums s a → Sums u b → Sums (If e s u) r) → Sums (statement_at t i) r
    unfolding arity_of arities last prior wants_expression
    if_arm e q₁ q₂ q₃ x y g =
        rw (statement_if t i e (after_one 10 2 e refl))
        (g _ _ _ (rw (q₃, q₂, q₁) (o.reads _ (kid 10 2 0 e refl) (sorted i 10 2 0 l e refl)))
        (row_sums table _ (rw q₁ at x) (o.flows _ (kid 10 1 1 e refl) (sorted i 10 1 1 l e refl))) (row_sums table _ y (o.flows _ (kid 10 0 2 e refl) (sorted i 10 0 2 l e refl))))

    pub while_arm : {b : Row} {w j : ℕ} → kind_at t i ≡ 11 → j ≡ i - 1 - size_at t (i - 1) → w ≡ word_of table j 1 → RowIs b table (i - 1)
        → ((e : List Read) (s : Statement) → Needs e w → Sums s b → Sums (While e s) r) → Sums (statement_at t i) r
    unfolding arity_of arities last prior wants_expression
    while_arm e q₁ q₂ y g =
        rw (statement_while t i e (after_one 11 1 e refl))
        (g _ _ (rw (q₂, q₁) (o.reads _ (kid 11 1 0 e refl) (sorted i 11 1 0 l e refl))) (row_sums table _ y (o.flows _ (kid 11 0 1 e refl) (sorted i 11 0 1 l e refl))))

    -- ---- statements with an expression alone

    module _ {needs : VarSet} (q : needs.0 ≡ word_of table (i - 1) 1) where
      wanted : (kind : ℕ) → kind_at t i ≡ kind → arity_of kind (a_at t i) ≡ 1 + 0 + 0 → wants_expression kind 0 ≡ true → r.needs ≡ needs → Needs (reads_of t (i - 1)) r.needs.0
      unfolding last
      wanted kind e a w h = rw (h, q) (o.reads (i - 1) (kid kind 0 0 e a) (sorted i kind 0 0 l e a ∙ w))

      pub assign_arm : {adds : VarSet} {x : ℕ} → kind_at t i ≡ 8 → x ≡ b_at t i → has adds.0 ≡ with none x → PlainIs r needs adds false → Sums (statement_at t i) r
      unfolding arity_of arities last wants_expression
      assign_arm e q w z =
          rw (statement_assign t i e (after_one 8 0 e refl))
          (assign_summary (b_at t i) _ _ _ _ _ _ _ (wanted 8 e refl refl z.0.2) z.0.0 z.0.1 (rw (z.0.3, ← q) w) z.1.0 z.1.1)

      pub return_arm : {adds : VarSet} → kind_at t i ≡ 12 → has adds.0 ≡ below most_variables → PlainIs r needs adds true → Sums (statement_at t i) r
      unfolding arity_of arities last wants_expression
      return_arm e w z =
          rw (statement_return t i e (after_one 12 0 e refl))
          (return_summary _ _ _ _ _ _ _ (wanted 12 e refl refl z.0.2) z.0.0 z.0.1 (rw z.0.3 w) z.1.0 z.1.1)

      pub assert_arm : {adds : VarSet} → kind_at t i ≡ 13 → has adds.0 ≡ none → PlainIs r needs adds false → Sums (statement_at t i) r
      unfolding arity_of arities last wants_expression
      assert_arm e w z =
          rw (statement_assert t i e (after_one 13 0 e refl))
          (assert_summary _ _ _ _ _ _ z.0.0 (rw z.0.3 w) z.1.0 z.1.1 _ (wanted 13 e refl refl z.0.2) z.0.1)

      pub expr_arm : {adds : VarSet} → kind_at t i ≡ 14 → has adds.0 ≡ none → PlainIs r needs adds false → Sums (statement_at t i) r
      unfolding arity_of arities last wants_expression
      expr_arm e w z =
          rw (statement_expr t i e (after_one 14 0 e refl))
          (expr_summary _ _ _ _ _ _ z.0.0 (rw z.0.3 w) z.1.0 z.1.1 _ (wanted 14 e refl refl z.0.2) z.0.1)

    pub nop_arm : {needs adds : VarSet} → is_statement (kind_at t i) ≡ false → has needs.0 ≡ none → has adds.0 ≡ none → PlainIs r needs adds false → Sums (statement_at t i) r
    nop_arm h v w z = rw (statement_rest t i h) (nop_summary _ _ _ _ _ _ z.0.0 (rw z.0.3 w) z.1.0 z.1.1 (rw z.0.2 v) z.0.1)
