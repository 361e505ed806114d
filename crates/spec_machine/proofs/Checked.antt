-- Questions 8, 9 and 12 at each expression and each statement of an accepted file's program.
use mathlib.Core.Path.{◌≡◌, refl, sym, ◌∙◌}
use mathlib.Core.Bool.{true, false≢true}
use mathlib.Core.List.{List, [], ◌∷◌}
use Prim.Native.Nat.{ℕ, ◌<◌}
use lib.Dec.{ltb}
use borrow.Author.Tests.{ltb-true, lt-ltb}
use Rattle.records.specs.Fields.{functions, params_of, count_of, kind_at, a_at, b_at}
use Rattle.records.specs.Parts.{part_of}
use Rattle.records.specs.Children.{arities, arity_of, arity_at}
use Rattle.records.proofs.Bools.{and_left}
use Rattle.spec_language.specs.Sorts.{wants_expression}
use Rattle.spec_language.specs.Statements.{prior, last}
use Rattle.spec_language.specs.Types as types
use Rattle.spec_language.proofs.Facts.{operator_fields, variable_fields, assign_fields, decl_fields, call_fields}
use Rattle.spec_language.proofs.Accept.{Accepted}
use Rattle.spec_language.proofs.Tiles.{Each}
use Rattle.spec_language.proofs.Typings.{fields_at, operator_wants, and_wants, call_wants, assign_wants, if_wants, while_wants, return_wants, assert_wants}
use Rattle.spec_machine.specs.Program.{op, fn, Ref, node, if_of, seq_of, ExprForm, apply, StmtForm, type_n}
use Rattle.spec_machine.specs.Fit.{is_expr, is_stmt, IsExpr, IsStmt, AllExpr}
use Rattle.spec_machine.specs.File.{kids, look_at, form_at, if_form, seq_form, see_at, fun_of, program_of}
use Rattle.spec_machine.proofs.Accepted.{GoodE, GoodS}
use Rattle.spec_machine.proofs.Levels.{two-kids, by_look, by_form, by_while}
use Rattle.spec_machine.proofs.Operands.{kids_types, kids_each}
use Rattle.spec_machine.proofs.Nodes.{variable_type_is, has_variable, expression_at, statement_at_lem, argument_is}

-- a parameter's type
parameter_type : (s : List ℕ) (f : ℕ) (t : List ℕ) (n k : ℕ) → k < params_of s f → types.var_type s f t n k ≡ types.param_type s f k
unfolding types.var_type
parameter_type s f t n k l = rw (lt-ltb k (params_of s f) l)

module _ (s : List ℕ) (h : Accepted s) (f : ℕ) (l : f < functions s) where
  abbrev t : List ℕ
  t = part_of s f

  abbrev n : ℕ
  n = count_of s f

  all_expressions : (ns : List ℕ) → Each (IsExpr (program_of s) f) ns → AllExpr (program_of s) f ns
  all_expressions [] e = tt
  all_expressions (c ∷ cs) e = (e.0, all_expressions cs e.1)

  module _ (i : ℕ) (p : i < n) where
    operator_good : kind_at t i ≡ 3 → GoodE (program_of s) f (apply (op (a_at t i)) (kids t i))
    unfolding arity_at arity_of arities wants_expression
    operator_good e =
        let w = operator_wants s h f l i p e in
        let a = expression_at s h f l i 3 1 0 p e refl refl in
        let b = expression_at s h f l i 3 0 1 p e refl refl in
        rw (two-kids t i (rw e)) ((a.0, (b.0, tt)), rw (a.1 ∙ w.0, b.1 ∙ w.1), operator_fields s f (a_at t i) (b_at t i) (fields_at s h f l i 3 p e))

    and_good : kind_at t i ≡ 4 → GoodE (program_of s) f (ExprForm.and (prior t (last i)) (last i))
    unfolding arity_of arities wants_expression
    and_good e =
        let w = and_wants s h f l i p e in
        let a = expression_at s h f l i 4 1 0 p e refl refl in
        let b = expression_at s h f l i 4 0 1 p e refl refl in
        ((a.0, a.1 ∙ w.0), (b.0, b.1 ∙ w.1))

    call_good : kind_at t i ≡ 5 → GoodE (program_of s) f (apply (fn (b_at t i)) (kids t i))
    unfolding program_of fun_of arity_at arity_of arities
    call_good e =
        let g = b_at t i in
        let c = call_fields s f (a_at t i) g (fields_at s h f l i 5 p e) in
        let a : arity_at t i ≡ params_of s g = rw e c.1 in
        let k = kids_types t i (type_n (program_of s) f) (types.var_type s g (part_of s g) (count_of s g)) (params_of s g) a
        (λ k u. (argument_is s h f l i k p e (rw a u)).1 ∙ call_wants s h f l i p e k (rw c.1 u) ∙ sym (parameter_type s g (part_of s g) (count_of s g) k u)) in
        (all_expressions (kids t i) (kids_each t i (IsExpr (program_of s) f) (λ k u. (argument_is s h f l i k p e u).0)), sym k, c.0)

    pub expression_good : is_expr (look_at t i) ≡ true → GoodE (program_of s) f (look_at t i)
    expression_good =
        by_look t i (λ x. is_expr x ≡ true → GoodE (program_of s) f x)
        (λ e q. tt)
        (λ e q. tt)
        (λ e q. has_variable s h f l (b_at t i) (variable_fields s f (a_at t i) (b_at t i) (fields_at s h f l i 2 p e)))
        (λ e q. operator_good e)
        (λ e q. and_good e)
        (λ e q. call_good e)
        (λ e q. tt)
        (λ u q. absurd (false≢true q))

    pub statement_good : is_stmt (form_at t i) ≡ true → GoodS (program_of s) f (form_at t i)
    unfolding program_of fun_of arity_of arities wants_expression
    statement_good =
        by_form t i (λ x. is_stmt x ≡ true → GoodS (program_of s) f x)
        (λ e q. tt)
        (λ e r q. (statement_at_lem s h f l i 7 1 0 p e refl refl, statement_at_lem s h f l i 7 0 1 p e refl refl))
        (λ e r q. let v = assign_fields s f (a_at t i) (b_at t i) (fields_at s h f l i 8 p e) in let a = expression_at s h f l i 8 0 0 p e refl refl in
        (a.0, a.1 ∙ assign_wants s h f l i p e ∙ sym (variable_type_is s h f l (b_at t i) v), has_variable s h f l (b_at t i) v))
        (λ e r q. (has_variable s h f l (b_at t i) (decl_fields s f (a_at t i) (b_at t i) (fields_at s h f l i 9 p e)).2, statement_at_lem s h f l i 9 0 0 p e refl refl))
        (λ e r q. let a = expression_at s h f l i 10 2 0 p e refl refl in
        (a.0, a.1 ∙ if_wants s h f l i p e, statement_at_lem s h f l i 10 1 1 p e refl refl, statement_at_lem s h f l i 10 0 2 p e refl refl))
        (λ e r q. let a = expression_at s h f l i 11 1 0 p e refl refl in (a.0, a.1 ∙ while_wants s h f l i p e, statement_at_lem s h f l i 11 0 1 p e refl refl))
        (λ e r q. let a = expression_at s h f l i 12 0 0 p e refl refl in (a.0, a.1 ∙ return_wants s h f l i p e))
        (λ e r q. let a = expression_at s h f l i 13 0 0 p e refl refl in (a.0, a.1 ∙ assert_wants s h f l i p e))
        (λ e r q. (expression_at s h f l i 14 0 0 p e refl refl).0)
        (λ k z q. absurd (false≢true q))

  -- the if and the seq of a while
  module _ (w : ℕ) (p : w < n) where
    pub if_good : (x : StmtForm) → form_at t w ≡ x → is_stmt (if_form w x) ≡ true → GoodS (program_of s) f (if_form w x)
    unfolding program_of see_at if_form seq_form
    if_good x q r =
        by_while w x
        (λ v e a z.
        let y : form_at t w ≡ StmtForm.while v e a = q ∙ z in
        let g : GoodS (program_of s) f (StmtForm.while v e a) = rw y at (statement_good w p (rw y)) in
        rw z (g.0, g.1, (lt-ltb w n p, rw y), (refl, refl)))
        (λ z y. absurd (false≢true (rw z at r)))

    pub seq_good : (x : StmtForm) → form_at t w ≡ x → is_stmt (seq_form w x) ≡ true → GoodS (program_of s) f (seq_form w x)
    unfolding program_of see_at seq_form
    seq_good x q r =
        by_while w x
        (λ v e a z.
        let y : form_at t w ≡ StmtForm.while v e a = q ∙ z in
        let g : GoodS (program_of s) f (StmtForm.while v e a) = rw y at (statement_good w p (rw y)) in
        rw z (g.2, (rw (y, lt-ltb w n p), rw y)))
        (λ z y. absurd (false≢true (rw y at r)))

  -- every statement
  pub all_good : (r : Ref) → IsStmt (program_of s) f r → GoodS (program_of s) f (see_at t r)
  unfolding program_of see_at
  all_good (node i) g = statement_good i (ltb-true _ _ (and_left (ltb i n) _ g.0)) g.1
  all_good Ref.nop g = tt
  all_good (if_of w) g = if_good w (ltb-true _ _ g.0) (form_at t w) refl g.1
  all_good (seq_of w) g = seq_good w (ltb-true _ _ g.0) (form_at t w) refl g.1
