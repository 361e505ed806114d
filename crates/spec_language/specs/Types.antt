-- Question 12: the type of each node, and the type that a node wants of each child.
use Rattle.std.specs.Prelude.{Bool, true, ◌||◌, ◌&&◌, List, [], ◌∷◌, ℕ, ◌+◌, ◌*◌, ◌/◌, ◌%◌, ◌^◌, eqb, ltb, get_or, length}
use Rattle.varset.specs.Lowest.{pick}
use Rattle.records.specs.Fields.{result_of, params_of, mask_of, kind_at, a_at, b_at}
use Rattle.spec_language.specs.Scopes.{decl_of}

-- the types are 0 nothing, 1 int, 2 bool; a statement's type stays unset
abbrev pub unset : ℕ
unset = 255

-- any type will do
abbrev pub any : ℕ
any = 254

-- the type of parameter k by three masks: of bools, type 2, of arrays, type 3, and of grids, type 4; in no mask it is an int
abbrev pub mask_type : ℕ → ℕ → ℕ → ℕ → ℕ
mask_type bools arrays grids k = 1 + bools / 2 ^ k % 2 + 2 * (arrays / 2 ^ k % 2) + 3 * (grids / 2 ^ k % 2)

-- the type of parameter k of function f; no parameter is an array or a grid
unfoldable pub param_type : List ℕ → ℕ → ℕ → ℕ
param_type s f k = mask_type (mask_of s f) 0 0 k

-- the type of variable x of function f, whose part t has n nodes: a parameter's, or its decl's
unfoldable pub var_type : List ℕ → ℕ → List ℕ → ℕ → ℕ → ℕ
var_type s f t n x = pick (ltb x (params_of s f)) (param_type s f x) (a_at t (decl_of t n x))

-- operators 10 to 15 give bool
unfoldable pub operator_type : ℕ → ℕ
operator_type a = pick (ltb a 10) 1 2

-- the types of the kinds: int, bool, variable, operator, &&, call, the statements, and the value nothing; by kind
unfoldable pub types_of : List ℕ → ℕ → List ℕ → ℕ → ℕ → List ℕ
types_of s f t n i =
    1 ∷ 2 ∷ var_type s f t n (b_at t i) ∷ operator_type (a_at t i) ∷ 2 ∷ result_of s (b_at t i)
    ∷ unset ∷ unset ∷ unset ∷ unset ∷ unset ∷ unset ∷ unset ∷ unset ∷ unset ∷ 0 ∷ []

-- the type of node i
unfoldable pub type_at : List ℕ → ℕ → List ℕ → ℕ → ℕ → ℕ
type_at s f t n i = get_or (types_of s f t n i) (kind_at t i) unset

-- what a condition wants: its first child a bool
unfoldable pub condition : ℕ → ℕ
condition k = pick (eqb k 0) 2 any

-- what the kinds want of child k; by kind
unfoldable pub wants_of : List ℕ → ℕ → List ℕ → ℕ → ℕ → ℕ → List ℕ
wants_of s f t n i k =
    any ∷ any ∷ any ∷ 1 ∷ 2 ∷ param_type s (b_at t i) k ∷ any ∷ any ∷ var_type s f t n (b_at t i) ∷ any
    ∷ condition k ∷ condition k ∷ result_of s f ∷ 2 ∷ any ∷ any ∷ []

-- the type that node i wants of child k
unfoldable pub want_at : List ℕ → ℕ → List ℕ → ℕ → ℕ → ℕ → ℕ
want_at s f t n i k = get_or (wants_of s f t n i k) (kind_at t i) any

-- a type is the one wanted
unfoldable pub suits : ℕ → ℕ → Bool
suits want type = eqb want any || eqb want type

-- children, the last first, all have the types wanted: a child's number is how many stand before it
unfoldable pub agree : (ℕ → ℕ) → (ℕ → ℕ) → List ℕ → Bool
agree want type [] = true
agree want type (c ∷ cs) = suits (want (length cs)) (type c) && agree want type cs
