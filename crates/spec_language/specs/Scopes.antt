-- Questions 10 and 11: where a variable is declared, and what lies under its decl.
use Rattle.std.specs.Prelude.{Bool, ◌||◌, ◌&&◌, List, ℕ, zero, suc, ◌+◌, eqb, ltb}
use Rattle.varset.specs.Lowest.{pick}
use Rattle.records.specs.Fields.{kind_at, b_at, size_at}

-- node i is a decl of x
unfoldable pub declares_at : List ℕ → ℕ → ℕ → Bool
declares_at t i x = eqb (kind_at t i) 9 && eqb (b_at t i) x

-- how many of the first n nodes are decls of x
unfoldable pub decl_count : List ℕ → ℕ → ℕ → ℕ
decl_count t zero x = 0
decl_count t (suc i) x = pick (declares_at t i x) (suc (decl_count t i x)) (decl_count t i x)

-- the decl of x among the first n nodes, the last where there are several, 0 where there is none
unfoldable pub decl_of : List ℕ → ℕ → ℕ → ℕ
decl_of t zero x = 0
decl_of t (suc i) x = pick (declares_at t i x) i (decl_of t i x)

-- node j lies in the subtree of node d, below it
unfoldable pub under : List ℕ → ℕ → ℕ → Bool
under t d j = ltb j d && ltb d (j + size_at t d)

-- a kind that uses or assigns a variable; by kind
unfoldable pub uses_variable : ℕ → Bool
uses_variable kind = eqb kind 2 || eqb kind 8
