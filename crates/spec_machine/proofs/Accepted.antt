-- What an accepted file's program promises the rules.
use mathlib.Core.Path.{◌≡◌}
use mathlib.Core.Bool.{true}
use mathlib.Core.List.{List, [], ◌∷◌, map}
use Prim.Native.Nat.{ℕ}
use lib.Dec.{ltb}
use lib.ListN.{length}
use Rattle.varset.specs.Sets.{Set}
use Rattle.spec_language.specs.Flow.{returns}
use Rattle.spec_language.proofs.Flows.{Scope}
use Rattle.spec_machine.specs.Values.{Ty, t_none, t_int, t_bool}
use Rattle.spec_machine.specs.Program.{Operation, Ref, node, if_of, seq_of, grow_f, ExprForm, const, apply, StmtForm, Fun, Program, type_n, var_types, type_of_var, wants}
use Rattle.spec_machine.specs.Fit.{IsExpr, IsStmt, AllExpr, Var, HasFunction, KnownOperation, Reads, Ok, ReadsNodes}

-- questions 8, 9 and 12 at one node
abbrev pub GoodE : Program → ℕ → ExprForm → Type 0
GoodE P f (const v) = Unit {0}
GoodE P f (ExprForm.var x) = Var P f x
GoodE P f (apply h ns) = AllExpr P f ns × (wants P h ≡ map (type_n P f) ns) × KnownOperation P h
GoodE P f (ExprForm.and n m) = (IsExpr P f n × (type_n P f n ≡ t_bool)) × (IsExpr P f m × (type_n P f m ≡ t_bool))
GoodE P f ExprForm.stray = ⊥

abbrev pub GoodS : Program → ℕ → StmtForm → Type 0
GoodS P f StmtForm.nop = Unit {0}
GoodS P f (StmtForm.seq a b) = IsStmt P f a × IsStmt P f b
GoodS P f (StmtForm.assign x n) = IsExpr P f n × (type_n P f n ≡ type_of_var (P.fun f) x) × Var P f x
GoodS P f (StmtForm.decl x a) = Var P f x × IsStmt P f a
GoodS P f (StmtForm.if n a b) = IsExpr P f n × (type_n P f n ≡ t_bool) × IsStmt P f a × IsStmt P f b
GoodS P f (StmtForm.while w n a) = IsExpr P f n × (type_n P f n ≡ t_bool) × IsStmt P f a
GoodS P f (StmtForm.return n) = IsExpr P f n × (type_n P f n ≡ (P.fun f).result)
GoodS P f (StmtForm.assert n) = IsExpr P f n × (type_n P f n ≡ t_bool)
GoodS P f (StmtForm.expr n) = IsExpr P f n
GoodS P f StmtForm.stray = ⊥

-- the parameters
abbrev pub param_set : Fun → Set
param_set f x = ltb x (length f.params)

abbrev pub Real : List Ty → Type 0
Real [] = Unit {0}
Real (t ∷ ts) = (t ≡ t_none → ⊥) × Real ts

-- what questions 1 to 14 promise
pub record Accepted (P : Program) : Type 0 where
  -- a while's if and seq are an if and a seq, and a tree grows from its level
  pub see_nop : (f : ℕ) → P.see f Ref.nop ≡ StmtForm.nop
  pub see_while : (f w e : ℕ) (a r : Ref) → P.see f r ≡ StmtForm.while w e a
      → (r ≡ node w) × (P.see f (if_of w) ≡ StmtForm.if e (seq_of w) Ref.nop) × (P.see f (seq_of w) ≡ StmtForm.seq a (node w))
  pub stmt_is : (f : ℕ) (r : Ref) → P.stmt f r ≡ grow_f (P.reads f) (P.stmt f) (P.see f r)
  pub main_takes : (P.fun 0).params ≡ []
  pub main_gives : (P.fun 0).result ≡ t_int
  pub main_known : HasFunction P 0
  pub real : (f : ℕ) → HasFunction P f → Real (var_types (P.fun f))
  pub bodies : (f : ℕ) → HasFunction P f → IsStmt P f (P.fun f).body
  pub exprs : (f n : ℕ) → IsExpr P f n → GoodE P f (P.look f n)
  pub stmts : (f : ℕ) (r : Ref) → IsStmt P f r → GoodS P f (P.see f r)
  pub scopes : (f : ℕ) (r : Ref) → IsStmt P f r → (u : Set) × Scope u (P.stmt f r)
  pub reads_var : (f n x : ℕ) (d : Set) → IsExpr P f n → P.look f n ≡ ExprForm.var x → Reads P f n d → d x ≡ true
  pub reads_apply : (f n : ℕ) (h : Operation) (ns : List ℕ) (d : Set) → IsExpr P f n → P.look f n ≡ apply h ns → Reads P f n d → ReadsNodes P f ns d
  pub reads_and : (f n l m : ℕ) (d : Set) → IsExpr P f n → P.look f n ≡ ExprForm.and l m → Reads P f n d → Reads P f l d × Reads P f m d
  pub flows : (f : ℕ) → HasFunction P f → Ok P f (P.fun f).body (param_set (P.fun f))
  pub returns : (f : ℕ) → HasFunction P f → returns (P.stmt f (P.fun f).body) ≡ true
