-- A row stored leaves the rows before it, and says what it is to say.
use mathlib.Core.Path.{◌≡◌, ◌∙◌}
use mathlib.Core.Bool.{true, false}
use mathlib.Core.List.{List, [], ◌∷◌}
use Prim.Native.Nat.{ℕ, zero, suc, ◌+◌, ◌*◌, ◌≤◌, ◌<◌}
use native.Mathlib.Decide.{dec_lt}
use native.Mathlib.Omega.{arith}
use lib.ListN.{length, get_or, set, length-set}
use lib.Seq.{get_or-set_same}
use Rattle.words.specs.Blocks.{puts}
use Rattle.words.proofs.Blocks.{get_d_puts}
use Rattle.records.specs.Fields.{kind_at}
use Rattle.records.proofs.Bools.{clash}
use Rattle.spec_language.specs.Sorts.{is_expression}
use Rattle.spec_language.specs.Statements.{reads_of, statement_at}
use Rattle.check_summary.specs.Summary.{Needs}
use Rattle.check_summary.specs.declared.rows.Row.{Row}
use Rattle.check_summary.specs.Rows.{Sums}
use Rattle.check_summary.specs.Tables.{word_of, fails_in, returns_in, RowSays, RowsFilled}

-- the words stored
puts_same : (vs l : List ℕ) (at k m : ℕ) → m < length vs → at + (k + length vs) ≤ length l → get_or (puts l at k vs) (at + (k + m)) 0 ≡ get_or vs m 0
puts_same [] l at k m h r = absurd (omega arith)
puts_same (v ∷ vs) l at k zero h r =
    let z : at + (k + 0) ≡ at + k = omega arith in
    rw z (get_d_puts vs (set l (at + k) v) at (suc k) (at + k) (λ j q e. omega arith) ∙ get_or-set_same l (at + k) v 0 (omega arith))
puts_same (v ∷ vs) l at k (suc m) h r =
    let z : at + (k + suc m) ≡ at + (suc k + m) = omega arith in
    rw z (puts_same vs (set l (at + k) v) at (suc k) m (omega arith) (rw (length-set l (at + k) v) (omega arith)))

module _ (table stored : List ℕ) (i a b c d e : ℕ) (room : 5 * i + 5 ≤ length table) (put : stored ≡ puts table (5 * i) 0 (a ∷ b ∷ c ∷ d ∷ e ∷ [])) where
  before : (k j : ℕ) → k < i → j < 5 → word_of stored k j ≡ word_of table k j
  unfolding word_of
  before k j l h = rw put (get_d_puts (a ∷ b ∷ c ∷ d ∷ e ∷ []) table (5 * i) 0 (5 * k + j) (λ m q z. omega arith))

  here : (j : ℕ) → j < 5 → word_of stored i j ≡ get_or (a ∷ b ∷ c ∷ d ∷ e ∷ []) j 0
  unfolding word_of
  here j h = let z : 0 + j ≡ j = omega arith in rw put (rw z at (puts_same (a ∷ b ∷ c ∷ d ∷ e ∷ []) table (5 * i) 0 j h (omega arith)))

  -- one row more, of an expression and of a statement
  module _ {t : List ℕ} (o : RowsFilled t table i) where
    more : (is_expression (kind_at t i) ≡ true → Needs (reads_of t i) (word_of stored i 1)) → (is_expression (kind_at t i) ≡ false → RowSays (statement_at t i) stored i) → RowsFilled t stored (i + 1)
    more n m =
        record {
          reads = λ k l y. near_reads k l y (dec_lt k i);
          flows = λ k l y. near_flows k l y (dec_lt k i);
        }
      where
        near_reads : (k : ℕ) → k < i + 1 → is_expression (kind_at t k) ≡ true → Dec (k < i) → Needs (reads_of t k) (word_of stored k 1)
        near_reads k l y (yes h) = rw (before k 1 h (omega arith)) (o.reads k h y)
        near_reads k l y (no h) = let q : k ≡ i = omega arith in rw q (n (rw q at y))

        near_flows : (k : ℕ) → k < i + 1 → is_expression (kind_at t k) ≡ false → Dec (k < i) → RowSays (statement_at t k) stored k
        near_flows k l y (yes h) = rw (before k 0 h (omega arith), before k 1 h (omega arith), before k 2 h (omega arith), before k 3 h (omega arith), before k 4 h (omega arith)) (o.flows k h y)
        near_flows k l y (no h) = let q : k ≡ i = omega arith in rw q (m (rw q at y))

    pub more_reads : is_expression (kind_at t i) ≡ true → Needs (reads_of t i) b → RowsFilled t stored (i + 1)
    more_reads x n = more (λ y. rw (here 1 (omega arith)) n) (λ y. clash (is_expression (kind_at t i)) x y)

    pub more_flows : {r : Row} → is_expression (kind_at t i) ≡ false → Sums (statement_at t i) r → (fails_in a ≡ r.fails) × (returns_in a ≡ r.returned)
        → b ≡ r.needs.0 → c ≡ r.adds.0 → d ≡ r.drops.0 → e ≡ r.declared.0 → RowsFilled t stored (i + 1)
    more_flows {r} x n g u₁ u₂ u₃ u₄ =
        more (λ y. clash (is_expression (kind_at t i)) y x)
        (λ y. rw (here 0 (omega arith), here 1 (omega arith), here 2 (omega arith), here 3 (omega arith), here 4 (omega arith), g.0, g.1, u₁, u₂, u₃, u₄) n)

pub none_filled : (t table : List ℕ) → RowsFilled t table 0
none_filled t table = record { reads = λ k l y. absurd (omega arith); flows = λ k l y. absurd (omega arith) }
