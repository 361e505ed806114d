-- One level of the search for the first empty read, at a node of each kind.
use Rattle.std.specs.Prelude.{Some, Option, None}
use mathlib.Core.Path.{◌≡◌, refl, sym, ap, ◌∙◌}
use mathlib.Core.Bool.{Bool, true}
use mathlib.Core.List.{List}
use mathlib.Core.Logic.{◌⊎◌}
use Prim.Native.Nat.{ℕ, ◌-◌, ◌≤◌, ◌<◌}
use native.Mathlib.Omega.{arith}
use Rattle.varset.specs.Lowest.{pick}
use Rattle.varset.specs.Sets.{Set, has, without}
use Rattle.records.specs.Fields.{kind_at, b_at, size_at}
use Rattle.records.specs.Children.{arity_of, arities}
use Rattle.records.specs.Search.{At, or_else, clear}
use Rattle.records.specs.declared.Found.{Found}
use Rattle.spec_language.specs.Sorts.{wants_expression}
use Rattle.spec_language.specs.KindLists.{is_statement}
use Rattle.spec_language.specs.Statements.{Statement, prior, last, reads_of, statement_in, statement_at}
use Rattle.spec_language.specs.Flow.{leaves, missing, lacks, returns}
use Rattle.spec_language.specs.Known.{Known, WellFormed}
use Rattle.spec_language.proofs.KindLists.{statement_within, statement_outside}
use Rattle.spec_language.proofs.KnownNodes.{inner}
use Rattle.spec_language.proofs.Positions.{body_placed}
use Rattle.spec_language.proofs.Rules.{lacks_seq, lacks_assign, lacks_decl, lacks_if, lacks_while, lacks_expression, lacks_rest}
use Rattle.spec_language.proofs.Trees.{lacking_below}
use Rattle.check_summary.specs.Tables.{RowSays, TableSays}
use Rattle.check_summary.specs.Flowed.{FlowedIs}
use Rattle.check_summary.specs.declared.Flowed.{Flowed}
use Rattle.check_summary.specs.declared.rows.Row.{Row}
use Rattle.check_summary.proofs.Arms.{RowIs, row_sums, sorted}

-- the first search where it found something, else the second
one-of : (b : Bool) (f g : Option Found) → b ≡ clear f → or_else f g ≡ pick b g f
unfolding or_else
one-of b (Some found) g e = rw e refl
one-of b None g e = rw e refl

-- what the arms before leave of a range
pub from_twelve : (k : ℕ) → 7 ≤ k → (k ≡ 7 → ⊥) → (k ≡ 8 → ⊥) → (k ≡ 9 → ⊥) → (k ≡ 10 → ⊥) → (k ≡ 11 → ⊥) → 12 ≤ k
from_twelve k l a b c d e = omega arith

module _ {t : List ℕ} {n : ℕ} (p : WellFormed t n) {i : ℕ} (l : i < n) where
  above : (kind : ℕ) → kind_at t i ≡ kind → is_statement kind ≡ true → 0 < i
  above kind = inner kind p.nodes l

  module _ (d : Set) {found : Option Found} where
    pub seq_lacks : {table : List ℕ} → TableSays t n table → {a : ℕ} {r : Flowed} → kind_at t i ≡ 7 → a ≡ i - 1 - size_at t (i - 1) → ((s : Statement) → RowSays s table a → FlowedIs s d r)
        → found ≡ pick r.ok (lacks (statement_at t (i - 1)) (has r.left.0)) (lacks (statement_at t a) d) → found ≡ lacks (statement_at t i) d
    unfolding arity_of arities last prior wants_expression
    seq_lacks o {a} {r} e q f g =
        let h = f (statement_at t a) (rw q (o.0.flows _ (omega arith) (sorted p l i 7 1 0 l e refl))) in
        let z : pick r.ok (lacks (statement_at t (i - 1)) (leaves (statement_at t a) d)) (lacks (statement_at t a) d) ≡ lacks (statement_at t i) d = sym (one-of r.ok _ _ h.ok) ∙ rw q (sym (lacks_seq t i d e (above 7 e refl))) in
        g ∙ rw h.left z

    pub if_lacks : {table : List ℕ} → TableSays t n table → {a c : ℕ} {r : Flowed} {lacking : Option Found} → kind_at t i ≡ 10 → a ≡ i - 1 - size_at t (i - 1) → c ≡ a - size_at t a → ((s : Statement) → RowSays s table a → FlowedIs s d r)
        → lacking ≡ missing (reads_of t c) d → found ≡ or_else lacking (pick r.ok (lacks (statement_at t (i - 1)) d) (lacks (statement_at t a) d)) → found ≡ lacks (statement_at t i) d
    unfolding arity_of arities last prior wants_expression
    if_lacks o {a} {c} {r} {lacking} e q k f m g =
        let h = f (statement_at t a) (rw q (o.0.flows _ (omega arith) (sorted p l i 10 1 1 l e refl))) in
        g ∙ ap (or_else lacking) (sym (one-of r.ok _ _ h.ok)) ∙ rw (m, k, q) (sym (lacks_if t i d e (above 10 e refl)))

    pub while_lacks : {a : ℕ} {lacking : Option Found} → kind_at t i ≡ 11 → a ≡ i - 1 - size_at t (i - 1)
        → lacking ≡ missing (reads_of t a) d → found ≡ or_else lacking (lacks (statement_at t (i - 1)) d) → found ≡ lacks (statement_at t i) d
    unfolding last prior
    while_lacks e q m g = g ∙ rw (m, q) (sym (lacks_while t i d e (above 11 e refl)))

    pub decl_lacks : {x : ℕ} {inside : Set} → kind_at t i ≡ 9 → x ≡ b_at t i → inside ≡ without d x → found ≡ lacks (statement_at t (i - 1)) inside → found ≡ lacks (statement_at t i) d
    unfolding last
    decl_lacks e q w g = g ∙ rw (w, q) (sym (lacks_decl t i d e (above 9 e refl)))

    pub assign_lacks : kind_at t i ≡ 8 → found ≡ missing (reads_of t (i - 1)) d → found ≡ lacks (statement_at t i) d
    unfolding last
    assign_lacks e g = g ∙ sym (lacks_assign t i d e (above 8 e refl))

    pub expression_lacks : (kind : ℕ) → kind_at t i ≡ kind → 12 ≤ kind → kind ≤ 14 → found ≡ missing (reads_of t (i - 1)) d → found ≡ lacks (statement_at t i) d
    unfolding last
    expression_lacks kind e a b g = g ∙ sym (lacks_expression t i d (omega arith) (omega arith) (above kind e (statement_within kind (omega arith) (omega arith))))

    pub rest_lacks : (kind : ℕ) → kind_at t i ≡ kind → (kind < 7) ⊎ (15 ≤ kind) → found ≡ None → found ≡ lacks (statement_at t i) d
    rest_lacks kind e h g = g ∙ sym (lacks_rest t i d (rw e (statement_outside kind h)))

-- no statement stands at node 0
pub first_lacks : (t : List ℕ) (i : ℕ) (d : Set) → i ≤ 0 → None ≡ lacks (statement_at t i) d
unfolding statement_at statement_in lacks
first_lacks t i d l = let e : i ≡ 0 = omega arith in rw e refl

-- what the last of n nodes lacks is one of them
pub lacking_within : {t : List ℕ} {n : ℕ} (d : Set) {r : Option Found} → Known t n → 1 ≤ n → r ≡ lacks (statement_at t (n - 1)) d → (i x : ℕ) → r ≡ At i x → i < n
lacking_within {t} {n} d h l q i x e = let b : i ≤ n - 1 = lacking_below t n h (n - 1) i x d (omega arith) (sym q ∙ e) in omega arith

-- the body's row says whether it returns
pub body_returns : {t : List ℕ} {n : ℕ} {table : List ℕ} {r : Row} → WellFormed t n → 1 ≤ n → TableSays t n table → RowIs r table (n - 1) → returns (statement_at t (n - 1)) ≡ r.returned
body_returns {t} {n} {table} {r} p l o e = (row_sums table (n - 1) e (o.0.flows (n - 1) (omega arith) (body_placed t n l p.placed))).returning
