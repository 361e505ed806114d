-- The sort and the type of a node, by its kind.
use mathlib.Core.Path.{◌≡◌, refl, sym, ◌∙◌}
use mathlib.Core.Bool.{Bool, true, false, not, ◌&&◌, and_assoc}
use mathlib.Core.List.{List}
use Prim.Native.Nat.{ℕ, ◌≤◌, ◌<◌}
use lib.Dec.{eqb, ltb}
use borrow.Author.Tests.{ltb-true, eqb-true, lt-ltb, le-ltb}
use Rattle.records.specs.Fields.{vars_of, kind_at}
use Rattle.records.specs.Parts.{part_of}
use Rattle.records.proofs.Bools.{by, clash, and_left, and_right}
use Rattle.spec_language.specs.Sorts.{is_expression}
use Rattle.spec_language.specs.KindLists.{is_constant, is_statement}
use Rattle.spec_language.specs.Types as types
use Rattle.spec_language.proofs.KindLists.{constant_expression}
use Rattle.spec_language.proofs.KnownNodes.{inner}
use Rattle.spec_machine.specs.Program.{node, if_of, seq_of, StmtForm, type_n, type_of_var}
use Rattle.spec_machine.specs.Fit.{is_const, is_stmt, is_nop}
use Rattle.spec_machine.specs.File.{look_at, form_at, if_form, seq_form, see_at, program_of}
use Rattle.spec_machine.specs.Test.{expr_in, stmt_in}
use Rattle.spec_machine.proofs.Levels.{by_look, by_form}
use Rattle.spec_machine.proofs.Nodes.{look_sort, variable_type_is, type_is}
use Rattle.fit_nodes.specs.Part.{IsPart}
use Rattle.fit_nodes.proofs.AcceptedParts.{all, nodes}

-- a look is a constant exactly where the kind is
constant : (t : List ℕ) (i : ℕ) → is_constant (kind_at t i) ≡ is_const (look_at t i)
constant t i =
    by_look t i (λ x. is_constant (kind_at t i) ≡ is_const x)
    (λ e. rw e) (λ e. rw e) (λ e. rw e) (λ e. rw e) (λ e. rw e) (λ e. rw e) (λ e. rw e)
    (λ n. by (is_constant (kind_at t i)) (λ e. clash (is_expression (kind_at t i)) (constant_expression (kind_at t i) e) n) (λ e. e))

module _ {s : List ℕ} {f : ℕ} {t : List ℕ} {n : ℕ} (p : IsPart s f t n) where
  -- ---- variables and expressions
  pub variable_type : {x : ℕ} → x < vars_of s f → types.var_type s f t n x ≡ type_of_var ((program_of s).fun f) x
  unfolding program_of
  variable_type {x} l = rw (p.part, p.count) (sym (variable_type_is s (all p) f p.known x l))

  module _ (i : ℕ) where
    expression : expr_in (program_of s) f i ≡ ltb i n && is_expression (kind_at t i)
    unfolding program_of
    expression = rw (p.part, p.count, look_sort (part_of s f) i)

    pub not_own : n ≤ i → false ≡ expr_in (program_of s) f i
    not_own l = rw (expression, le-ltb i n l)

    pub own_expression : {k : ℕ} {r : Bool} → i < n → k ≡ kind_at t i → r ≡ is_expression k → r ≡ expr_in (program_of s) f i
    own_expression l e h = rw (expression, lt-ltb i n l, h, e)

    pub expression_inside : expr_in (program_of s) f i ≡ true → i < n
    expression_inside e = ltb-true i n (and_left _ _ (sym expression ∙ e))

    pub own_constant : {k : ℕ} → k ≡ kind_at t i → is_constant k ≡ is_const ((program_of s).look f i)
    unfolding program_of
    own_constant e = rw (e, p.part) (constant _ i)

    pub own_type : expr_in (program_of s) f i ≡ true → types.type_at s f t n i ≡ type_n (program_of s) f i
    own_type e =
        let l = expression_inside e in
        let q : is_expression (kind_at t i) ≡ true = and_right (ltb i n) _ (sym expression ∙ e) in
        rw (p.part, p.count) (sym (type_is s (all p) f p.known i (rw p.count at l) (rw p.part at q)))

    -- ---- statements

    -- a statement with children is not the first node, so it is not stray
    stray_kind : i < n → (0 < i → is_statement (kind_at t i) ≡ false) → is_statement (kind_at t i) ≡ false
    stray_kind l z = by (is_statement (kind_at t i)) (λ e. z (inner (kind_at t i) (nodes p) l refl e)) (λ e. e)

    -- a test of a node's form agrees with one of its kind
    same_form : (own : Bool) (test : StmtForm → Bool) → (i < n → own ≡ test (form_at t i)) → ltb i n && own ≡ ltb i n && test (form_at t i)
    same_form own test h = by (ltb i n) (λ e. rw e (h (ltb-true _ _ e))) (λ e. rw e)

    pub node_sort : ltb i n && is_statement (kind_at t i) ≡ stmt_in (program_of s) f (node i)
    unfolding program_of see_at
    node_sort =
        same_form (is_statement (kind_at t i)) (λ x. not (is_nop x) && is_stmt x)
        (λ l. by_form t i (λ x. is_statement (kind_at t i) ≡ not (is_nop x) && is_stmt x) (λ e. rw e)
        (λ e q. rw e) (λ e q. rw e) (λ e q. rw e) (λ e q. rw e) (λ e q. rw e) (λ e q. rw e) (λ e q. rw e) (λ e q. rw e)
        (λ k z. stray_kind l z))
        ∙ rw (p.part, p.count, and_assoc)

    stray_loop : i < n → (0 < i → is_statement (kind_at t i) ≡ false) → eqb (kind_at t i) 11 ≡ false
    stray_loop l z = by (eqb (kind_at t i) 11) (λ e. clash (is_statement (kind_at t i)) (rw (eqb-true (kind_at t i) 11 e)) (stray_kind l z)) (λ e. e)

    pub if_sort : ltb i n && eqb (kind_at t i) 11 ≡ stmt_in (program_of s) f (if_of i)
    unfolding program_of see_at if_form
    if_sort =
        same_form (eqb (kind_at t i) 11) (λ x. is_stmt (if_form i x))
        (λ l. by_form t i (λ x. eqb (kind_at t i) 11 ≡ is_stmt (if_form i x)) (λ e. rw e)
        (λ e q. rw e) (λ e q. rw e) (λ e q. rw e) (λ e q. rw e) (λ e q. rw e) (λ e q. rw e) (λ e q. rw e) (λ e q. rw e)
        (λ k z. stray_loop l z))
        ∙ rw (p.part, p.count)

    pub seq_sort : ltb i n && eqb (kind_at t i) 11 ≡ stmt_in (program_of s) f (seq_of i)
    unfolding program_of see_at seq_form
    seq_sort =
        same_form (eqb (kind_at t i) 11) (λ x. is_stmt (seq_form i x))
        (λ l. by_form t i (λ x. eqb (kind_at t i) 11 ≡ is_stmt (seq_form i x)) (λ e. rw e)
        (λ e q. rw e) (λ e q. rw e) (λ e q. rw e) (λ e q. rw e) (λ e q. rw e) (λ e q. rw e) (λ e q. rw e) (λ e q. rw e)
        (λ k z. stray_loop l z))
        ∙ rw (p.part, p.count)

    pub node_inside : stmt_in (program_of s) f (node i) ≡ true → i < n
    node_inside e = ltb-true i n (and_left _ _ (node_sort ∙ e))

    loop_inside : ltb i n && eqb (kind_at t i) 11 ≡ true → (i < n) × (kind_at t i ≡ 11)
    loop_inside e = (ltb-true i n (and_left _ _ e), eqb-true _ _ (and_right (ltb i n) _ e))

    pub if_inside : stmt_in (program_of s) f (if_of i) ≡ true → (i < n) × (kind_at t i ≡ 11)
    if_inside e = loop_inside (if_sort ∙ e)

    pub seq_inside : stmt_in (program_of s) f (seq_of i) ≡ true → (i < n) × (kind_at t i ≡ 11)
    seq_inside e = loop_inside (seq_sort ∙ e)
