-- The program of an accepted file is accepted.
use Rattle.std.specs.Prelude.{None}
use mathlib.Core.Path.{◌≡◌, refl}
use mathlib.Core.Bool.{true, false≢true}
use mathlib.Core.List.{List, [], ◌∷◌}
use Prim.Native.Nat.{ℕ, zero, suc, ◌+◌, ◌*◌, ◌-◌, ◌≤◌, ◌<◌}
use native.Mathlib.Nat.{le_refl}
use native.Mathlib.Decide.{dec_lt}
use native.Mathlib.Omega.{arith}
use lib.Dec.{eqb, ltb}
use lib.ListN.{length, drop_of_length-le}
use lib.Seq.{take-nil}
use borrow.Author.Tests.{eqb-true, ltb-true}
use Rattle.varset.specs.Sets.{Set, none, below}
use Rattle.records.specs.Fields.{functions, nodes, result_of, params_of, vars_of, count_of, kind_at, b_at}
use Rattle.records.specs.Parts.{sum_of, start_of, part_of}
use Rattle.records.specs.Children.{arities, arity_of}
use Rattle.records.proofs.Bools.{and_left, and_right}
use Rattle.spec_language.specs.Statements.{prior, last, shapes, shape_at, Statement, Nop, Seq, Assign, Decl, If, While, Return, Assert, Expr, statement_at}
use Rattle.spec_language.specs.Flow.{lacks, returns}
use Rattle.spec_language.specs.Types as types
use Rattle.spec_language.specs.Records.{records_ok, sum_ok, main_ok}
use Rattle.spec_language.specs.Check.{accepted, check_of}
use Rattle.spec_language.proofs.Accept as accept
use Rattle.spec_language.proofs.Tiles.{Each}
use Rattle.spec_language.proofs.Typings.{variable_small}
use Rattle.spec_language.proofs.Positions.{sizes, body_sort}
use Rattle.spec_language.proofs.Flows.{Scope, reads_more}
use Rattle.spec_language.proofs.Subtrees.{child_of, child_at, reads_child, reads_variable}
use Rattle.spec_language.proofs.Scoping.{scope_at, scoped}
use Rattle.spec_machine.specs.Values.{int}
use Rattle.spec_machine.specs.Program.{Ref, node, if_of, seq_of, ExprForm, const, apply, StmtForm, Program, var_types}
use Rattle.spec_machine.specs.Fit.{is_stmt, IsExpr, IsStmt, Reads, ReadsNodes}
use Rattle.spec_machine.specs.File.{kids, looks, look_at, ref_at, form_of, form_at, if_form, seq_form, see_at, unrolled, looped, stmt_at, types_from, fun_of, program_of}
use Rattle.spec_machine.proofs.Accepted.{GoodE, GoodS, param_set, Real, Accepted}
use Rattle.spec_machine.proofs.Levels.{by_look, ref_tree, tree_grows, while_see}
use Rattle.spec_machine.proofs.Operands.{types_length, types_real, kids_each}
use Rattle.spec_machine.proofs.Nodes.{variables, statement_is}
use Rattle.spec_machine.proofs.Checked.{expression_good, all_good}

-- ---- a function past the last has no nodes but ints

sum_up : (s : List ℕ) (f g : ℕ) → f ≤ g → sum_of s f ≤ sum_of s g
unfolding sum_of
sum_up s f zero p = let e : f ≡ 0 = omega arith in rw e (le_refl _)
sum_up s f (suc g) p = go (sum_up s f g) (dec_lt g f)
  where
    go : (f ≤ g → sum_of s f ≤ sum_of s g) → Dec (g < f) → sum_of s f ≤ sum_of s g + count_of s g
    go r (yes l) = let e : f ≡ suc g = omega arith in unfold sum_of in (rw e (le_refl _))
    go r (no l) = omega (arith, r (omega arith))

module _ (s : List ℕ) (h : accept.Accepted s) (f : ℕ) (l : functions s ≤ f) where
  empty_part : part_of s f ≡ []
  unfolding records_ok sum_ok part_of start_of
  empty_part =
      let n : length s ≡ 12 * (1 + functions s + nodes s) = eqb-true _ _ h.three in
      let m : sum_of s (functions s) ≡ nodes s = eqb-true _ _ h.five in
      rw (drop_of_length-le s {i = 12 * (1 + functions s + sum_of s f)} (omega (arith, sum_up s (functions s) f l))) (take-nil (12 * count_of s f))

  empty_kind : (i : ℕ) → kind_at (part_of s f) i ≡ 0
  unfolding kind_at
  empty_kind i = rw empty_part

  empty_look : (i : ℕ) → look_at (part_of s f) i ≡ const (int (b_at (part_of s f) i))
  unfolding look_at looks
  empty_look i = rw (empty_kind i)

  empty_form : (i : ℕ) → form_at (part_of s f) i ≡ StmtForm.stray
  unfolding form_at form_of shape_at shapes
  empty_form zero = rw (empty_kind 0)
  empty_form (suc i) = rw (empty_kind (suc i))

  empty_see : (r : Ref) → is_stmt (see_at (part_of s f) r) ≡ true → r ≡ Ref.nop
  unfolding see_at if_form seq_form
  empty_see (node i) e = absurd (false≢true (rw (empty_form i) at e))
  empty_see Ref.nop e = refl
  empty_see (if_of w) e = absurd (false≢true (rw (empty_form w) at e))
  empty_see (seq_of w) e = absurd (false≢true (rw (empty_form w) at e))

-- ---- scopes

scope_if : (u : Set) (a : Statement) → Scope u a → Scope u (unrolled a)
unfolding unrolled
scope_if u (While e a) g = (g.0, (g.1, g), tt)
scope_if u Nop g = tt
scope_if u (Seq a b) g = tt
scope_if u (Assign x e) g = tt
scope_if u (Decl x a) g = tt
scope_if u (If e a b) g = tt
scope_if u (Return e) g = tt
scope_if u (Assert e) g = tt
scope_if u (Expr e) g = tt

scope_seq : (u : Set) (a : Statement) → Scope u a → Scope u (looped a)
unfolding looped
scope_seq u (While e a) g = (g.1, g)
scope_seq u Nop g = tt
scope_seq u (Seq a b) g = tt
scope_seq u (Assign x e) g = tt
scope_seq u (Decl x a) g = tt
scope_seq u (If e a b) g = tt
scope_seq u (Return e) g = tt
scope_seq u (Assert e) g = tt
scope_seq u (Expr e) g = tt

-- ---- reads

-- what the reads of an expression say of its one level
abbrev ReadsLook : Program → ℕ → Set → ExprForm → Type 0
ReadsLook P f d (const v) = Unit {0}
ReadsLook P f d (ExprForm.var x) = d x ≡ true
ReadsLook P f d (apply h ns) = ReadsNodes P f ns d
ReadsLook P f d (ExprForm.and n m) = Reads P f n d × Reads P f m d
ReadsLook P f d ExprForm.stray = Unit {0}

each_reads : (P : Program) (f : ℕ) (d : Set) (ns : List ℕ) → Each (λ n. Reads P f n d) ns → ReadsNodes P f ns d
each_reads P f d [] e = tt
each_reads P f d (n ∷ ns) e = (e.0, each_reads P f d ns e.1)

module _ (s : List ℕ) (h : accept.Accepted s) (f : ℕ) (l : f < functions s) where
  abbrev t : List ℕ
  t = part_of s f

  abbrev n : ℕ
  n = count_of s f

  reads_level : (i : ℕ) (d : Set) → i < n → Reads (program_of s) f i d → ReadsLook (program_of s) f d (look_at t i)
  unfolding program_of arity_of arities
  reads_level i d p r =
      by_look t i (ReadsLook (program_of s) f d)
      (λ e. tt)
      (λ e. tt)
      (λ e. ((reads_more i (b_at t i) [] d).0 (rw (reads_variable t n (sizes s h f l) i p e) at r)).0)
      (λ e. operands)
      (λ e. (reads_child t n (sizes s h f l) i (prior t (last i)) d p (child_at t n (sizes s h f l) i 4 1 0 p e refl) r, reads_child t n (sizes s h f l) i (last i) d p (child_at t n (sizes s h f l) i 4 0 1 p e refl) r))
      (λ e. operands)
      (λ e. tt)
      (λ u. tt)
    where
      operands : ReadsNodes (program_of s) f (kids t i) d
      operands = each_reads (program_of s) f d (kids t i) (kids_each t i (λ c. Reads (program_of s) f c d) (λ k q. unfold program_of in (reads_child t n (sizes s h f l) i _ d p (child_of t n (sizes s h f l) i k p q) r)))

  scope_of : (r : Ref) → IsStmt (program_of s) f r → (u : Set) × Scope u (stmt_at t r)
  unfolding program_of stmt_at
  scope_of (node i) g = (scope_at s f i, scoped s h f l i (ltb-true _ _ (and_left (ltb i n) _ g.0)))
  scope_of Ref.nop g = (none, tt)
  scope_of (if_of w) g = (scope_at s f w, scope_if (scope_at s f w) (statement_at t w) (scoped s h f l w (ltb-true _ _ g.0)))
  scope_of (seq_of w) g = (scope_at s f w, scope_seq (scope_at s f w) (statement_at t w) (scoped s h f l w (ltb-true _ _ g.0)))

  -- the parameters are the first variables
  parameters : below (params_of s f) ≡ param_set (fun_of s f)
  unfolding below fun_of
  parameters = λ k x. at x k
    where
      at : (x : ℕ) → ltb x (params_of s f) ≡ ltb x (length (types_from (types.var_type s f t n) (params_of s f) 0))
      at x = rw (types_length (types.var_type s f t n) (params_of s f) 0)

  body_flows : lacks (stmt_at t (ref_at t (n - 1))) (param_set (fun_of s f)) ≡ None
  body_flows = rw (ref_tree t (n - 1)) (rw parameters at (h.thirteen f l))

  all_real : Real (var_types (fun_of s f))
  all_real = rw (variables s h f l) (types_real (types.var_type s f t n) (vars_of s f) 0 (λ k p q. (variable_small s h f l k (omega arith)).0))

  body_is : IsStmt (program_of s) f (ref_at t (n - 1))
  body_is = let o = (accept.parts s h).some f l in statement_is s h f l (n - 1) (omega arith) (body_sort s h f l)

-- ---- every function
module _ (s : List ℕ) (h : accept.Accepted s) where
  reads_of : (f i : ℕ) (d : Set) → IsExpr (program_of s) f i → Reads (program_of s) f i d → ReadsLook (program_of s) f d (look_at (part_of s f) i)
  unfolding program_of
  reads_of f i d g r = go (dec_lt f (functions s))
    where
      go : Dec (f < functions s) → ReadsLook (program_of s) f d (look_at (part_of s f) i)
      go (yes l) = reads_level s h f l i d (ltb-true _ _ g.0) r
      go (no l) = rw (empty_look s h f (omega arith) i) tt

  expressions : (f i : ℕ) → IsExpr (program_of s) f i → GoodE (program_of s) f (look_at (part_of s f) i)
  unfolding program_of
  expressions f i g = go (dec_lt f (functions s))
    where
      go : Dec (f < functions s) → GoodE (program_of s) f (look_at (part_of s f) i)
      go (yes l) = expression_good s h f l i (ltb-true _ _ g.0) g.1
      go (no l) = rw (empty_look s h f (omega arith) i) tt

  statements : (f : ℕ) (r : Ref) → IsStmt (program_of s) f r → GoodS (program_of s) f (see_at (part_of s f) r) × ((u : Set) × Scope u (stmt_at (part_of s f) r))
  unfolding program_of see_at stmt_at
  statements f r g = go (dec_lt f (functions s))
    where
      go : Dec (f < functions s) → GoodS (program_of s) f (see_at (part_of s f) r) × ((u : Set) × Scope u (stmt_at (part_of s f) r))
      go (yes l) = (all_good s h f l r g, scope_of s h f l r g)
      go (no l) = rw (empty_see s h f (omega arith) r g.1) (tt, (none, tt))

  main_is : (params_of s 0 ≡ 0) × (result_of s 0 ≡ 1)
  unfolding main_ok
  main_is = (eqb-true _ _ (and_left (eqb (params_of s 0) 0) _ h.six), eqb-true _ _ (and_right (eqb (params_of s 0) 0) _ h.six))

  program_accepted : Accepted (program_of s)
  unfolding program_of fun_of see_at types_from
  program_accepted =
      record {
        see_nop = λ f. refl;
        see_while = λ f w e a r. while_see (part_of s f) w e a r;
        stmt_is = λ f r. tree_grows (part_of s f) r;
        main_takes = rw main_is.0;
        main_gives = main_is.1;
        main_known = (accept.header s h).some;
        real = λ f l. all_real s h f l;
        bodies = λ f l. body_is s h f l;
        exprs = expressions;
        stmts = λ f r g. (statements f r g).0;
        scopes = λ f r g. (statements f r g).1;
        reads_var = λ f i x d g e r. rw e at (reads_of f i d g r);
        reads_apply = λ f i k ns d g e r. rw e at (reads_of f i d g r);
        reads_and = λ f i a b d g e r. rw e at (reads_of f i d g r);
        flows = λ f l. body_flows s h f l;
        returns = λ f l. rw (ref_tree (part_of s f) (count_of s f - 1)) (h.fourteen f l);
      }

-- the program of an accepted file is accepted
pub accepted_program : (s : List ℕ) → check_of s ≡ accepted → Accepted (program_of s)
accepted_program s e = program_accepted s (accept.accepted_is s e)
