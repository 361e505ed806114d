-- Questions 7 to 14, of the part t of function f of the file s, which has n nodes.
use Rattle.std.specs.Prelude.{Option, None, Bool, false, not, ◌&&◌, ◌||◌, List, [], ◌∷◌, ℕ, zero, suc, ◌+◌, ◌-◌, eqb, leb, ltb, get_or, length}
use Rattle.varset.specs.Lowest.{pick, lowest}
use Rattle.varset.specs.Sets.{below}
use Rattle.records.specs.Fields.{mark_at, functions, params_of, vars_of, kind_at, a_at, b_at, size_at}
use Rattle.records.specs.Search.{At, first_of, unless}
use Rattle.records.specs.Children.{children}
use Rattle.records.specs.declared.Found.{Found}
use Rattle.spec_language.specs.Sorts.{is_expression, wrong_sort}
use Rattle.spec_language.specs.Statements.{statement_at}
use Rattle.spec_language.specs.Flow.{lacks, returns}
use Rattle.spec_language.specs.Scopes.{decl_count, decl_of, under, uses_variable}
use Rattle.spec_language.specs.Types.{type_at, want_at, agree}
use Rattle.records.specs.Format.{node_mark}

-- the fields a and b of the kinds; v, p and F are the function's and the file's, and a call's a is its callee's p; by kind
unfoldable pub fields : List ℕ → ℕ → ℕ → ℕ → List Bool
fields s f a b =
    let none = eqb a 0 && eqb b 0 in
    let variable = eqb a 0 && ltb b (vars_of s f) in
    eqb a 0 ∷ (eqb a 0 && ltb b 2) ∷ variable ∷ (ltb a 16 && eqb b 0) ∷ none ∷ (ltb b (functions s) && eqb a (params_of s b))
    ∷ none ∷ none ∷ variable ∷ ((eqb a 1 || eqb a 2) && (leb (params_of s f) b && ltb b (vars_of s f)))
    ∷ none ∷ none ∷ none ∷ none ∷ none ∷ none ∷ []

unfoldable pub fields_ok : List ℕ → ℕ → ℕ → ℕ → ℕ → Bool
fields_ok s f kind a b = get_or (fields s f a b) kind false

-- 7: is each node's mark "ND", its kind, a and b as above?
unfoldable pub node_ok : List ℕ → ℕ → List ℕ → ℕ → Bool
node_ok s f t i = eqb (mark_at t i) node_mark && fields_ok s f (kind_at t i) (a_at t i) (b_at t i)

-- the sizes of some nodes together
unfoldable pub total : (ℕ → ℕ) → List ℕ → ℕ
total size [] = 0
total size (c ∷ cs) = size c + total size cs

-- 8: is the size 1 plus the children's sizes, are the children among the i nodes before it in the part, and is the last size n?
unfoldable pub size_ok : List ℕ → ℕ → ℕ → Bool
size_ok t n i =
    let children_size = total (size_at t) (children t i) in
    eqb (size_at t i) (1 + children_size) && (leb children_size i && (not (eqb (1 + i) n) || eqb (size_at t i) n))

-- node i is one of these children, the last first, of a node of that kind, and of the other sort than its place wants
unfoldable pub wrong_child : List ℕ → ℕ → List ℕ → ℕ → Bool
wrong_child t kind [] i = false
wrong_child t kind (c ∷ cs) i = (eqb i c && wrong_sort kind (length cs) (kind_at t c)) || wrong_child t kind cs i

-- some number below n passes the test
unfoldable pub some : (ℕ → Bool) → ℕ → Bool
some p zero = false
some p (suc n) = p n || some p n

-- 9: is the node of the other sort than its position wants? The body, which is the last node, is to be a statement
unfoldable pub misplaced : List ℕ → ℕ → ℕ → Bool
misplaced t n i = (eqb (1 + i) n && is_expression (kind_at t i)) || some (λ q. wrong_child t (kind_at t q) (children t q) i) n

-- 10: is x one of the variables p to v−1 that is not declared by exactly one decl?
unfoldable pub undeclared : List ℕ → ℕ → List ℕ → ℕ → ℕ → Bool
undeclared s f t n x = leb (params_of s f) x && not (eqb (decl_count t n x) 1)

-- the lowest such variable is the item
unfoldable pub first_undeclared : ℕ → ℕ → Option Found
first_undeclared x v = pick (ltb x v) (At 0 x) None

-- 11: is a non-parameter used or assigned outside its decl?
unfoldable pub outside : List ℕ → ℕ → List ℕ → ℕ → ℕ → Bool
outside s f t n i = uses_variable (kind_at t i) && (leb (params_of s f) (b_at t i) && not (under t (decl_of t n (b_at t i)) i))

-- 12: has a child another type than the node wants?
unfoldable pub mistyped : List ℕ → ℕ → List ℕ → ℕ → ℕ → Bool
mistyped s f t n i = not (agree (want_at s f t n i) (type_at s f t n) (children t i))

-- the answers to questions 7 to 14, with nodes counted from the part's first and place 0 for the function
unfoldable pub answers : List ℕ → ℕ → List ℕ → ℕ → List (Option Found)
answers s f t n =
    first_of (λ i. not (node_ok s f t i)) n
    ∷ first_of (λ i. not (size_ok t n i)) n
    ∷ first_of (misplaced t n) n
    ∷ first_undeclared (lowest (undeclared s f t n) (vars_of s f)) (vars_of s f)
    ∷ first_of (outside s f t n) n
    ∷ first_of (mistyped s f t n) n
    ∷ lacks (statement_at t (n - 1)) (below (params_of s f))
    ∷ unless (returns (statement_at t (n - 1))) 0
    ∷ []
