-- Expressions and statements.
use Rattle.std.specs.Prelude.{Bool, true, false, not, ◌&&◌, ◌||◌, List, [], ◌∷◌, ℕ, eqb}

-- one of two holds and the other does not
unfoldable pub differ : Bool → Bool → Bool
differ true b = not b
differ false b = b

-- a kind is one of these
abbrev pub one_of : List ℕ → ℕ → Bool
one_of [] kind = false
one_of (k ∷ ks) kind = eqb kind k || one_of ks kind

-- the kinds that are expressions; by kind
abbrev pub expressions : List ℕ
expressions = 0 ∷ 1 ∷ 2 ∷ 3 ∷ 4 ∷ 5 ∷ 15 ∷ []

unfoldable pub is_expression : ℕ → Bool
is_expression kind = one_of expressions kind

-- child k, counted from the left, of a node of that kind is to be an expression: not under seq and decl, and under if and while only the condition; by kind
unfoldable pub wants_expression : ℕ → ℕ → Bool
wants_expression kind k = not (eqb kind 7 || eqb kind 9) && (not (eqb kind 10 || eqb kind 11) || eqb k 0)

-- a node of kind `child` is of the other sort than child k of a node of that kind is to be
unfoldable pub wrong_sort : ℕ → ℕ → ℕ → Bool
wrong_sort kind k child = differ (is_expression child) (wants_expression kind k)
