-- The program of a procedure file.
use Rattle.std.specs.Prelude.{List, [], ◌∷◌, ℕ, zero, suc, ◌-◌, eqb, get_or}
use Rattle.varset.specs.Lowest.{pick}
use Rattle.records.specs.Fields.{functions, edition_of, result_of, params_of, vars_of, count_of, kind_at, a_at, b_at}
use Rattle.records.specs.Parts.{part_of}
use Rattle.records.specs.Children.{children}
use Rattle.spec_language.specs.Statements.{Shape, shape_at, reads_of, statement_at, Statement, Nop, Seq, Assign, Decl, If, While, Return, Assert, Expr}
use Rattle.spec_language.specs.Types as types
use Rattle.spec_machine.specs.Values.{nothing, int, truth, Ty}
use Rattle.spec_machine.specs.Program.{op, fn, Ref, node, if_of, seq_of, ExprForm, const, apply, StmtForm, Fun, Program}

-- the last first, before those in `acc`
unfoldable pub backwards : List ℕ → List ℕ → List ℕ
backwards [] acc = acc
backwards (c ∷ cs) acc = backwards cs (c ∷ acc)

-- the children of node i, the first first
unfoldable pub kids : List ℕ → ℕ → List ℕ
kids t i = backwards (children t i) []

-- the two children of an &&
unfoldable pub and_form : List ℕ → ExprForm
and_form [] = ExprForm.stray
and_form (l ∷ []) = ExprForm.stray
and_form (l ∷ (m ∷ [])) = ExprForm.and l m
and_form (l ∷ (m ∷ (k ∷ ks))) = ExprForm.stray

-- one level of the kinds at node i: int, bool, variable, operator, &&, call, the statements, which are no expressions, and the value nothing; by kind
unfoldable pub looks : List ℕ → ℕ → List ExprForm
looks t i =
    const (int (b_at t i)) ∷ const (truth (eqb (b_at t i) 1)) ∷ ExprForm.var (b_at t i) ∷ apply (op (a_at t i)) (kids t i) ∷ and_form (kids t i) ∷ apply (fn (b_at t i)) (kids t i)
    ∷ ExprForm.stray ∷ ExprForm.stray ∷ ExprForm.stray ∷ ExprForm.stray ∷ ExprForm.stray ∷ ExprForm.stray ∷ ExprForm.stray ∷ ExprForm.stray ∷ ExprForm.stray
    ∷ const nothing ∷ []

-- one level of the expression at node i
unfoldable pub look_at : List ℕ → ℕ → ExprForm
look_at t i = get_or (looks t i) (kind_at t i) ExprForm.stray

-- nop is one and the same
unfoldable pub ref_at : List ℕ → ℕ → Ref
ref_at t i = pick (eqb (kind_at t i) 6) Ref.nop (node i)

-- one level of the statement at node i, its statements by their references; by kind
unfoldable pub form_of : List ℕ → ℕ → Shape → StmtForm
form_of t i Shape.nop = StmtForm.nop
form_of t i (Shape.seq a b) = StmtForm.seq (ref_at t a) (ref_at t b)
form_of t i (Shape.assign x e) = StmtForm.assign x e
form_of t i (Shape.decl x a) = StmtForm.decl x (ref_at t a)
form_of t i (Shape.if e a b) = StmtForm.if e (ref_at t a) (ref_at t b)
form_of t i (Shape.while e a) = StmtForm.while i e (ref_at t a)
form_of t i (Shape.return e) = StmtForm.return e
form_of t i (Shape.assert e) = StmtForm.assert e
form_of t i (Shape.expr e) = StmtForm.expr e
form_of t i Shape.stray = StmtForm.stray

-- no node stands before node 0, so it has no children
unfoldable pub form_at : List ℕ → ℕ → StmtForm
form_at t zero = pick (eqb (kind_at t 0) 6) StmtForm.nop StmtForm.stray
form_at t (suc i) = form_of t (suc i) (shape_at t (suc i))

-- the if that a while equals; by kind
unfoldable pub if_form : ℕ → StmtForm → StmtForm
if_form w (StmtForm.while v e a) = StmtForm.if e (seq_of w) Ref.nop
if_form w StmtForm.nop = StmtForm.stray
if_form w (StmtForm.seq a b) = StmtForm.stray
if_form w (StmtForm.assign x e) = StmtForm.stray
if_form w (StmtForm.decl x a) = StmtForm.stray
if_form w (StmtForm.if e a b) = StmtForm.stray
if_form w (StmtForm.return e) = StmtForm.stray
if_form w (StmtForm.assert e) = StmtForm.stray
if_form w (StmtForm.expr e) = StmtForm.stray
if_form w StmtForm.stray = StmtForm.stray

-- the seq in the if that a while equals; by kind
unfoldable pub seq_form : ℕ → StmtForm → StmtForm
seq_form w (StmtForm.while v e a) = StmtForm.seq a (node w)
seq_form w StmtForm.nop = StmtForm.stray
seq_form w (StmtForm.seq a b) = StmtForm.stray
seq_form w (StmtForm.assign x e) = StmtForm.stray
seq_form w (StmtForm.decl x a) = StmtForm.stray
seq_form w (StmtForm.if e a b) = StmtForm.stray
seq_form w (StmtForm.return e) = StmtForm.stray
seq_form w (StmtForm.assert e) = StmtForm.stray
seq_form w (StmtForm.expr e) = StmtForm.stray
seq_form w StmtForm.stray = StmtForm.stray

-- one level of a statement by its reference
unfoldable pub see_at : List ℕ → Ref → StmtForm
see_at t (node i) = form_at t i
see_at t Ref.nop = StmtForm.nop
see_at t (if_of w) = if_form w (form_at t w)
see_at t (seq_of w) = seq_form w (form_at t w)

-- the tree of the if that a while equals; by kind
unfoldable pub unrolled : Statement → Statement
unrolled (While e s) = If e (Seq s (While e s)) Nop
unrolled Nop = Nop
unrolled (Seq s t) = Nop
unrolled (Assign x e) = Nop
unrolled (Decl x s) = Nop
unrolled (If e s t) = Nop
unrolled (Return e) = Nop
unrolled (Assert e) = Nop
unrolled (Expr e) = Nop

-- the tree of the seq in the if that a while equals; by kind
unfoldable pub looped : Statement → Statement
looped (While e s) = Seq s (While e s)
looped Nop = Nop
looped (Seq s t) = Nop
looped (Assign x e) = Nop
looped (Decl x s) = Nop
looped (If e s t) = Nop
looped (Return e) = Nop
looped (Assert e) = Nop
looped (Expr e) = Nop

-- the tree of a statement by its reference
unfoldable pub stmt_at : List ℕ → Ref → Statement
stmt_at t (node i) = statement_at t i
stmt_at t Ref.nop = Nop
stmt_at t (if_of w) = unrolled (statement_at t w)
stmt_at t (seq_of w) = looped (statement_at t w)

-- the types of m variables from x on
unfoldable pub types_from : (ℕ → Ty) → ℕ → ℕ → List Ty
types_from type zero x = []
types_from type (suc m) x = type x ∷ types_from type m (suc x)

unfoldable pub fun_of : List ℕ → ℕ → Fun
fun_of s f =
    let t = part_of s f in
    let n = count_of s f in
    record {
      result = result_of s f;
      params = types_from (types.var_type s f t n) (params_of s f) 0;
      locals = types_from (types.var_type s f t n) (vars_of s f - params_of s f) (params_of s f);
      body = ref_at t (n - 1);
    }

-- the program of the file s
unfoldable pub program_of : List ℕ → Program
program_of s =
    record {
      edition = edition_of s;
      funs = functions s;
      fun = fun_of s;
      nodes = count_of s;
      look = λ f. look_at (part_of s f);
      see = λ f. see_at (part_of s f);
      reads = λ f. reads_of (part_of s f);
      stmt = λ f. stmt_at (part_of s f);
    }
