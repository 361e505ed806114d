-- A program, as the machine sees it: one level of a node at a time.
use Rattle.std.specs.Prelude.{Bool, List, [], ◌∷◌, ◌++◌, ℕ, ltb, get_or}
use Rattle.std.proofs.Math.Option.{Option, none, some}
use Rattle.varset.specs.Lowest.{pick}
use Rattle.spec_language.specs.Statements.{Read, Statement, Nop, Seq, Assign, Decl, If, While, Return, Assert, Expr}
use Rattle.spec_machine.specs.Values.{Value, Ty, t_none, t_int, t_bool, type_v}

-- what gathers operands: an operator, or a function, by its number
pub data Operation : Type 0 where
  op : ℕ → Operation
  fn : ℕ → Operation

-- a statement is known by its node; nop is one and the same; the if and the seq of a while by the while's node
pub data Ref : Type 0 where
  node : ℕ → Ref
  nop : Ref
  if_of : ℕ → Ref
  seq_of : ℕ → Ref

-- one level of an expression, its parts by their nodes; by kind
pub data ExprForm : Type 0 where
  const : Value → ExprForm
  var : ℕ → ExprForm
  apply : Operation → List ℕ → ExprForm
  and : ℕ → ℕ → ExprForm
  stray : ExprForm

-- one level of a statement; by kind
pub data StmtForm : Type 0 where
  nop : StmtForm
  seq : Ref → Ref → StmtForm
  assign : ℕ → ℕ → StmtForm
  decl : ℕ → Ref → StmtForm
  if : ℕ → Ref → Ref → StmtForm
  while : ℕ → ℕ → Ref → StmtForm
  return : ℕ → StmtForm
  assert : ℕ → StmtForm
  expr : ℕ → StmtForm
  stray : StmtForm

-- a function: its result type, the types of its parameters and of its other variables, and its body
pub record Fun : Type 0 where
  pub result : Ty
  pub params : List Ty
  pub locals : List Ty
  pub body : Ref

-- the tree of one level, from the reads of its expressions and the trees of its statements; by kind
abbrev pub grow_f : (ℕ → List Read) → (Ref → Statement) → StmtForm → Statement
grow_f r g nop = Nop
grow_f r g (seq a b) = Seq (g a) (g b)
grow_f r g (assign x n) = Assign x (r n)
grow_f r g (decl x a) = Decl x (g a)
grow_f r g (if n a b) = If (r n) (g a) (g b)
grow_f r g (while w n a) = While (r n) (g a)
grow_f r g (return n) = Return (r n)
grow_f r g (assert n) = Assert (r n)
grow_f r g (expr n) = Expr (r n)
grow_f r g stray = Nop

-- nodes are numbered in each function from 0: how many there are, one level of each, the reads of an expression, the tree of a statement
pub record Program : Type 0 where
  pub edition : ℕ
  pub funs : ℕ
  pub fun : ℕ → Fun
  pub nodes : ℕ → ℕ
  pub look : ℕ → ℕ → ExprForm
  pub see : ℕ → Ref → StmtForm
  pub reads : ℕ → ℕ → List Read
  pub stmt : ℕ → Ref → Statement

-- the function has this node
abbrev pub owns : Program → ℕ → ℕ → Bool
owns P f n = ltb n (P.nodes f)

abbrev pub var_types : Fun → List Ty
var_types f = f.params ++ f.locals

abbrev pub type_of_var : Fun → ℕ → Ty
type_of_var f x = get_or (var_types f) x t_none

-- operators take two ints, and 10 to 15 give bool
abbrev pub wants : Program → Operation → List Ty
wants P (op o) = t_int ∷ t_int ∷ []
wants P (fn f) = (P.fun f).params

-- the type of the value that an operation gives, if it gives one
abbrev pub gives : Program → Operation → Option Ty
gives P (op o) = some (pick (ltb o 10) t_int t_bool)
gives P (fn f) = some (P.fun f).result

-- by the type of what is given, or another thing where nothing is
abbrev pub if_given {κ} : {B : Type κ} → Option Ty → (Ty → B) → B → B
if_given none b c = c
if_given (some t) b c = b t

-- the type of an expression of function f, by its one level; by kind
abbrev pub type_l : Program → ℕ → ExprForm → Ty
type_l P f (const v) = type_v v
type_l P f (var x) = type_of_var (P.fun f) x
type_l P f (apply h ns) = if_given (gives P h) (λ t. t) t_none
type_l P f (and n m) = t_bool
type_l P f stray = t_none

abbrev pub type_n : Program → ℕ → ℕ → Ty
type_n P f n = type_l P f (P.look f n)
