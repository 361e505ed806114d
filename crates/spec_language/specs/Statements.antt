-- A statement of a part: one level of a node, and the whole tree.
use Rattle.std.specs.Prelude.{List, [], ◌∷◌, ℕ, zero, suc, ◌+◌, ◌-◌, eqb, get_or}
use Rattle.varset.specs.Lowest.{pick}
use Rattle.records.specs.Fields.{kind_at, b_at, size_at}

-- one level: parts by their nodes, variables by their numbers; by kind
pub data Shape : Type 0 where
  nop : Shape
  seq : ℕ → ℕ → Shape
  assign : ℕ → ℕ → Shape
  decl : ℕ → ℕ → Shape
  if : ℕ → ℕ → ℕ → Shape
  while : ℕ → ℕ → Shape
  return : ℕ → Shape
  assert : ℕ → Shape
  expr : ℕ → Shape
  stray : Shape

-- the child before the one at c
unfoldable pub prior : List ℕ → ℕ → ℕ
prior t c = c - size_at t c

-- the last child of node i
unfoldable pub last : ℕ → ℕ
last i = i - 1

-- the shapes of the kinds at node i; an expression has none; by kind
unfoldable pub shapes : List ℕ → ℕ → List Shape
shapes t i =
    let c = last i in
    let b = prior t c in
    let a = prior t b in
    stray ∷ stray ∷ stray ∷ stray ∷ stray ∷ stray ∷ nop ∷ seq b c ∷ assign (b_at t i) c ∷ decl (b_at t i) c
    ∷ if a b c ∷ while b c ∷ return c ∷ assert c ∷ expr c ∷ stray ∷ []

unfoldable pub shape_at : List ℕ → ℕ → Shape
shape_at t i = get_or (shapes t i) (kind_at t i) stray

-- a read: the node that evaluates a variable, and the variable
pub data Read : Type 0 where
  read : ℕ → ℕ → Read

-- the reads among m nodes from node i on
unfoldable pub reads_from : List ℕ → ℕ → ℕ → List Read
reads_from t zero i = []
reads_from t (suc m) i = pick (eqb (kind_at t i) 2) (read i (b_at t i) ∷ reads_from t m (suc i)) (reads_from t m (suc i))

-- the reads of the expression at node e: those of its subtree
unfoldable pub reads_of : List ℕ → ℕ → List Read
reads_of t e = reads_from t (size_at t e) (e + 1 - size_at t e)

-- the whole tree, with the reads of its expressions; by kind
pub data Statement : Type 0 where
  Nop : Statement
  Seq : Statement → Statement → Statement
  Assign : ℕ → List Read → Statement
  Decl : ℕ → Statement → Statement
  If : List Read → Statement → Statement → Statement
  While : List Read → Statement → Statement
  Return : List Read → Statement
  Assert : List Read → Statement
  Expr : List Read → Statement

-- the tree of one level, from the trees of its parts; by kind
unfoldable pub grow : (ℕ → List Read) → (ℕ → Statement) → Shape → Statement
grow r g nop = Nop
grow r g (seq a b) = Seq (g a) (g b)
grow r g (assign x e) = Assign x (r e)
grow r g (decl x a) = Decl x (g a)
grow r g (if e a b) = If (r e) (g a) (g b)
grow r g (while e a) = While (r e) (g a)
grow r g (return e) = Return (r e)
grow r g (assert e) = Assert (r e)
grow r g (expr e) = Expr (r e)
grow r g stray = Nop

-- the tree at node i, at most `levels` deep; no node stands before node 0
unfoldable pub statement_in : List ℕ → ℕ → ℕ → Statement
statement_in t zero i = Nop
statement_in t (suc levels) zero = Nop
statement_in t (suc levels) (suc i) = grow (reads_of t) (statement_in t levels) (shape_at t (suc i))

-- the statement at node i
unfoldable pub statement_at : List ℕ → ℕ → Statement
statement_at t i = statement_in t i i
