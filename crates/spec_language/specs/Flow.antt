-- Question 13: which variables have a value. Question 14: what returns.
use Rattle.std.specs.Prelude.{Option, None, Bool, true, false, ◌||◌, ◌&&◌, List, [], ◌∷◌}
use Rattle.varset.specs.Lowest.{pick}
use Rattle.varset.specs.Sets.{Set, none, with, without, both, either, less, below}
use Rattle.records.specs.Format.{most_variables}
use Rattle.records.specs.declared.Found.{Found}
use Rattle.records.specs.Search.{At, or_else}
use Rattle.spec_language.specs.Statements.{Read, read, Statement, Nop, Seq, Assign, Decl, If, While, Return, Assert, Expr}

-- the variables declared in a statement; by kind
unfoldable pub declares : Statement → Set
declares Nop = none
declares (Seq s t) = either (declares s) (declares t)
declares (Assign x e) = none
declares (Decl x s) = with (declares s) x
declares (If e s t) = either (declares s) (declares t)
declares (While e s) = declares s
declares (Return e) = none
declares (Assert e) = none
declares (Expr e) = none

-- the variables that have a value after a statement begun with those in d; a return counts as giving one to every variable; by kind
unfoldable pub leaves : Statement → Set → Set
leaves Nop d = d
leaves (Seq s t) d = leaves t (leaves s d)
leaves (Assign x e) d = with d x
leaves (Decl x s) d = without (leaves s (without d x)) x
leaves (If e s t) d = both (leaves s d) (leaves t d)
leaves (While e s) d = less d (declares s)
leaves (Return e) d = either d (below most_variables)
leaves (Assert e) d = d
leaves (Expr e) d = d

-- the first read of a variable that is not in d
unfoldable pub missing : List Read → Set → Option Found
missing [] d = None
missing (read n x ∷ rs) d = pick (d x) (missing rs d) (At n 0)

-- the first node of a statement that reads a variable without a value; by kind
unfoldable pub lacks : Statement → Set → Option Found
lacks Nop d = None
lacks (Seq s t) d = or_else (lacks s d) (lacks t (leaves s d))
lacks (Assign x e) d = missing e d
lacks (Decl x s) d = lacks s (without d x)
lacks (If e s t) d = or_else (missing e d) (or_else (lacks s d) (lacks t d))
lacks (While e s) d = or_else (missing e d) (lacks s d)
lacks (Return e) d = missing e d
lacks (Assert e) d = missing e d
lacks (Expr e) d = missing e d

-- return does; seq if either does; if when both branches do; decl as its statement; nothing else; by kind
unfoldable pub returns : Statement → Bool
returns Nop = false
returns (Seq s t) = returns s || returns t
returns (Assign x e) = false
returns (Decl x s) = returns s
returns (If e s t) = returns s && returns t
returns (While e s) = false
returns (Return e) = true
returns (Assert e) = false
returns (Expr e) = false
