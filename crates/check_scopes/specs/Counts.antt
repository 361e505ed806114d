-- What the pass over the decls keeps.
use Rattle.std.specs.Prelude.{◌≡◌, List, ℕ, ◌<◌, true, leb, length, get_or}
use Rattle.varset.specs.Sets.{has}
use Rattle.records.specs.Fields.{kind_at, b_at}
use Rattle.spec_language.specs.Known.{names_variable}
use Rattle.spec_language.specs.Scopes.{decl_count, decl_of}
use Rattle.check_scopes.specs.declared.Declared.{Declared}
use Rattle.records.specs.Format.{most_variables}

-- the variables that n nodes of a part name are below 64
abbrev pub Named : List ℕ → ℕ → Type 0
Named t n = (i : ℕ) → i < n → names_variable (kind_at t i) ≡ true → b_at t i < most_variables

-- of the first i nodes: the variables that have a decl, and those that have two
pub record Counts (t : List ℕ) (i : ℕ) (d : Declared) : Type 0 where
  pub seen : has d.seen.0 ≡ (λ x. leb 1 (decl_count t i x))
  pub twice : has d.twice.0 ≡ (λ x. leb 2 (decl_count t i x))

-- a table of the decls of the variables below 64, among the first n nodes
abbrev pub Decls : List ℕ → ℕ → List ℕ → Type 0
Decls t n table = (x : ℕ) → x < most_variables → get_or table x 0 ≡ decl_of t n x

-- a table of 64 entries that has these decls, while it is being filled
abbrev pub Noted : List ℕ → ℕ → List ℕ → Type 0
Noted t n table = (length table ≡ most_variables) × Decls t n table
