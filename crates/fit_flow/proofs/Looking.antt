-- The rows that a table of a part has for a function's expressions and statements.
use mathlib.Core.Path.{◌≡◌, refl, ◌∙◌}
use mathlib.Core.Bool.{true, ◌&&◌}
use mathlib.Core.List.{List}
use Prim.Native.Nat.{ℕ, ◌+◌, ◌-◌, ◌*◌, ◌≤◌, ◌<◌}
use native.Mathlib.Omega.{arith}
use lib.ListN.{length}
use lib.Dec.{ltb}
use Rattle.records.specs.Fields.{kind_at, size_at}
use Rattle.records.specs.Children.{arity_of, arities}
use Rattle.records.proofs.Bools.{and_right}
use Rattle.spec_language.specs.Sorts.{wants_expression}
use Rattle.spec_language.specs.KindLists.{is_statement}
use Rattle.spec_language.specs.Statements.{last, prior, reads_of, statement_at}
use Rattle.spec_language.proofs.KindLists.{no_expression}
use Rattle.spec_machine.specs.File.{program_of}
use Rattle.spec_machine.specs.Test.{expr_in}
use Rattle.check_summary.specs.Summary.{Needs}
use Rattle.fit_nodes.specs.Part.{IsPart}
use Rattle.fit_nodes.proofs.AcceptedParts.{well-formed}
use Rattle.fit_nodes.proofs.Sorts.{own_expression, expression_inside}
use Rattle.check_summary.specs.Tables.{word_of, RowSays, TableSays}
use Rattle.check_summary.proofs.Arms.{sorted, kid}

module _ {s : List ℕ} {f : ℕ} {t : List ℕ} {n : ℕ} (p : IsPart s f t n) {table : List ℕ} (o : TableSays t n table) where
  pub row_room : {i : ℕ} → i < n → 5 * i + 5 ≤ length table
  row_room l = omega (arith, o.1)

  -- an expression of the function
  pub expression_row : (i : ℕ) → expr_in (program_of s) f i ≡ true → Needs (reads_of t i) (word_of table i 1)
  expression_row i h = let l = expression_inside p i h in o.0.reads i l (own_expression p i l refl refl ∙ h)

  -- a statement of the function
  pub statement_row : (i : ℕ) → i < n → (ltb i n && is_statement (kind_at t i)) ≡ true → RowSays (statement_at t i) table i
  statement_row i l h = o.0.flows i l (no_expression (kind_at t i) (and_right (ltb i n) _ h))

  -- a while, its body and its condition
  module _ {w : ℕ} (l : w < n) (k : kind_at t w ≡ 11) where
    pub while_row : RowSays (statement_at t w) table w
    while_row = o.0.flows w l (rw k (no_expression 11 refl))

    pub body_row : RowSays (statement_at t (w - 1)) table (w - 1)
    unfolding arity_of arities last wants_expression
    body_row = o.0.flows (w - 1) (omega (arith, l)) (sorted (well-formed p) l w 11 0 1 l k refl)

    pub condition_row : {e : ℕ} → e ≡ w - 1 - size_at t (w - 1) → Needs (reads_of t e) (word_of table e 1)
    unfolding arity_of arities last prior wants_expression
    condition_row q = rw q (o.0.reads _ (omega (arith, l)) (sorted (well-formed p) l w 11 1 0 l k refl))
