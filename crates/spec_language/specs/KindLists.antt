-- Kinds by lists, for contracts: the constants, and the statements that have children. They are no part of the meaning of the check.
use Rattle.std.specs.Prelude.{Bool, List, [], ◌∷◌, ℕ}
use Rattle.spec_language.specs.Sorts.{one_of}

-- the expressions that are constants; by kind
abbrev pub constants : List ℕ
constants = 0 ∷ 1 ∷ 15 ∷ []

abbrev pub is_constant : ℕ → Bool
is_constant kind = one_of constants kind

-- the statements that have children: all but nop; by kind
abbrev pub statements : List ℕ
statements = 7 ∷ 8 ∷ 9 ∷ 10 ∷ 11 ∷ 12 ∷ 13 ∷ 14 ∷ []

abbrev pub is_statement : ℕ → Bool
is_statement kind = one_of statements kind
