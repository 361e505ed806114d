-- The nodes of an accepted file's program: the sort and the type of each, and of its children.
use mathlib.Core.Path.{◌≡◌, refl, sym, ap, ◌∙◌}
use mathlib.Core.Logic.{⊎_elim}
use mathlib.Core.Bool.{Bool, true, false}
use mathlib.Core.List.{List}
use Prim.Native.Nat.{ℕ, ◌+◌, ◌-◌, ◌<◌}
use native.Mathlib.Omega.{arith}
use lib.Dec.{eqb}
use lib.ListN.{get_or}
use borrow.Author.Tests.{eqb-false, lt-ltb}
use Rattle.varset.specs.Lowest.{pick}
use Rattle.records.specs.Fields.{functions, params_of, vars_of, count_of, kind_at, a_at, b_at}
use Rattle.records.specs.Parts.{part_of}
use Rattle.records.specs.Children.{arity_of, arity_at, children}
use Rattle.records.proofs.Bools.{clash}
use Rattle.spec_language.specs.Sorts.{is_expression, wants_expression}
use Rattle.spec_language.specs.Statements.{last}
use Rattle.spec_language.specs.Types as types
use Rattle.spec_language.specs.Nodes.{fields_ok}
use Rattle.spec_language.proofs.Facts.{node_fields, variable_fields}
use Rattle.spec_language.proofs.KindLists.{has_child, kind_sort}
use Rattle.spec_language.proofs.Accept.{Accepted, function, nodes_known}
use Rattle.spec_language.proofs.Typings.{nth, fields_at, int_type, bool_type, variable_type, operator_gives, and_gives, call_gives, nothing_type}
use Rattle.spec_language.proofs.Positions.{sizes, child_below, child_sort}
use Rattle.spec_language.proofs.Subtrees.{back, child_at, sort_at}
use Rattle.spec_machine.specs.Values.{Ty}
use Rattle.spec_machine.specs.Program.{Ref, node, type_n, type_l, var_types, type_of_var}
use Rattle.spec_machine.specs.Fit.{is_expr, is_stmt, is_nop, IsExpr, IsStmt, Var}
use Rattle.spec_machine.specs.File.{look_at, ref_at, form_at, see_at, types_from, fun_of, program_of}
use Rattle.spec_machine.proofs.Levels.{by_look, by_form}
use Rattle.spec_machine.proofs.Operands.{types_length, types_at, types_append}

-- ---- of any file
module _ (t : List ℕ) (i : ℕ) where
  -- a look is an expression's exactly where the kind is
  pub look_sort : is_expr (look_at t i) ≡ is_expression (kind_at t i)
  unfolding is_expression
  look_sort =
      by_look t i (λ x. is_expr x ≡ is_expression (kind_at t i)) (λ e. rw e) (λ e. rw e) (λ e. rw e) (λ e. rw e) (λ e. rw e) (λ e. rw e) (λ e. rw e)
      sym

  -- only kind 6 is nop
  not_nop : (kind_at t i ≡ 6 → ⊥) → is_nop (form_at t i) ≡ false
  not_nop k =
      by_form t i (λ x. is_nop x ≡ false) (λ e. absurd (k e))
      (λ e p. refl) (λ e p. refl) (λ e p. refl) (λ e p. refl) (λ e p. refl) (λ e p. refl) (λ e p. refl) (λ e p. refl) (λ e p. refl)

  -- a kind that is no expression is a statement, where question 7 passes its fields
  form_sort : (s : List ℕ) (f a b : ℕ) → is_expression (kind_at t i) ≡ false → fields_ok s f (kind_at t i) a b ≡ true → (0 < arity_at t i → 0 < i) → is_stmt (form_at t i) ≡ true
  unfolding arity_at
  form_sort s f a b q u c =
      by_form t i (λ x. is_stmt x ≡ true) (λ e. refl)
      (λ e p. refl) (λ e p. refl) (λ e p. refl) (λ e p. refl) (λ e p. refl) (λ e p. refl) (λ e p. refl) (λ e p. refl)
      (λ n z. ⊎_elim (λ e. clash _ e q) (⊎_elim (λ e. absurd (n e)) (λ e. clash _ e (z (c (has_child (a_at t i) (kind_at t i) e))))) (kind_sort s f a b (kind_at t i) u))

-- ---- of an accepted file
module _ (s : List ℕ) (h : Accepted s) (f : ℕ) (l : f < functions s) where
  abbrev t : List ℕ
  t = part_of s f

  abbrev n : ℕ
  n = count_of s f

  -- the types of all variables
  pub variables : var_types (fun_of s f) ≡ types_from (types.var_type s f t n) (vars_of s f) 0
  unfolding fun_of
  variables =
      let p = (function s h f l).least in
      types_append (types.var_type s f t n) (params_of s f) (vars_of s f - params_of s f) (vars_of s f) 0 (params_of s f) (omega arith) (omega arith)

  pub variable_type_is : (x : ℕ) → x < vars_of s f → type_of_var (fun_of s f) x ≡ types.var_type s f t n x
  variable_type_is x p =
      let e : 0 + x ≡ x = omega arith in
      ap (λ (ts : List Ty). get_or ts x 0) variables ∙ types_at (types.var_type s f t n) (vars_of s f) 0 x p ∙ ap (types.var_type s f t n) e

  pub has_variable : (x : ℕ) → x < vars_of s f → Var (program_of s) f x
  unfolding program_of
  has_variable x p = rw (variables, types_length (types.var_type s f t n) (vars_of s f) 0) p

  -- an expression's node
  pub expression_is : (c : ℕ) → c < n → is_expression (kind_at t c) ≡ true → IsExpr (program_of s) f c
  unfolding program_of
  expression_is c p q = (lt-ltb c n p, look_sort t c ∙ q)

  -- the check's type of an expression is the program's
  pub type_is : (c : ℕ) → c < n → is_expression (kind_at t c) ≡ true → type_n (program_of s) f c ≡ types.type_at s f t n c
  unfolding program_of types.operator_type
  type_is c p q =
      by_look t c (λ x. type_l (program_of s) f x ≡ types.type_at s f t n c)
      (λ e. sym (int_type s f t n c e))
      (λ e. sym (bool_type s f t n c e))
      (λ e. variable_type_is (b_at t c) (variable_fields s f (a_at t c) (b_at t c) (fields_at s h f l c 2 p e)) ∙ sym (variable_type s f t n c e))
      (λ e. sym (operator_gives s f t n c e))
      (λ e. sym (and_gives s f t n c e))
      (λ e. given e)
      (λ e. sym (nothing_type s f t n c e))
      (clash (is_expression (kind_at t c)) q)
    where
      given : kind_at t c ≡ 5 → (fun_of s (b_at t c)).result ≡ types.type_at s f t n c
      given e = unfold fun_of in (sym (call_gives s f t n c e))

  -- a statement's reference
  pub statement_is : (c : ℕ) → c < n → is_expression (kind_at t c) ≡ false → IsStmt (program_of s) f (ref_at t c)
  unfolding program_of ref_at see_at
  statement_is c p q = go (eqb (kind_at t c) 6) refl
    where
      go : (b : Bool) → eqb (kind_at t c) 6 ≡ b → IsStmt (program_of s) f (pick b Ref.nop (node c))
      go true e = (refl, refl)
      go false e = (
        rw (not_nop t c (eqb-false _ _ e), lt-ltb c n p),
        form_sort t c s f (a_at t c) (b_at t c) q (node_fields s f t c (h.seven f c l p)) ((nodes_known s h f l).child c p),
      )

  -- the child of node i, of a known kind, that has m before it and j after it
  module _ (i kind j m : ℕ) (p : i < n) (e : kind_at t i ≡ kind) (a : arity_of kind (a_at t i) ≡ 1 + j + m) where
    child_inside : back t j (last i) < n
    child_inside = omega (arith, (child_at t n (sizes s h f l) i kind j m p e a).below)

    pub expression_at : wants_expression kind m ≡ true
        → IsExpr (program_of s) f (back t j (last i)) × (type_n (program_of s) f (back t j (last i)) ≡ types.type_at s f t n (back t j (last i)))
    expression_at w =
        let q = sort_at s h f l i kind j m p e a ∙ w in
        (expression_is (back t j (last i)) child_inside q, type_is (back t j (last i)) child_inside q)

    pub statement_at_lem : wants_expression kind m ≡ false → IsStmt (program_of s) f (ref_at t (back t j (last i)))
    statement_at_lem w = statement_is (back t j (last i)) child_inside (sort_at s h f l i kind j m p e a ∙ w)

  -- each argument of a call
  pub argument_is : (i k : ℕ) → i < n → kind_at t i ≡ 5 → k < arity_at t i
      → let c = nth k (children t i) in IsExpr (program_of s) f c × (type_n (program_of s) f c ≡ types.type_at s f t n c)
  unfolding wants_expression
  argument_is i k p e u =
      let c = nth k (children t i) in
      let b : c < n = omega (arith, child_below t n (sizes s h f l) i k p u) in
      let q : is_expression (kind_at t c) ≡ true = child_sort s h f l i k p u ∙ rw e in
      (expression_is c b q, type_is c b q)
