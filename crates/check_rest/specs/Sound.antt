-- What is known of the nodes that pass questions 8, 9 and 11.
use Rattle.std.specs.Prelude.{◌≡◌, true, false, List, ℕ, ◌+◌, ◌<◌}
use Rattle.records.specs.Fields.{kind_at}
use Rattle.records.specs.Children.{children}
use Rattle.spec_language.specs.Sorts.{is_expression}
use Rattle.spec_language.specs.Nodes.{size_ok, wrong_child, outside}

-- node i of a part of n nodes passes those of questions 8, 9 and 11 that are below r, and question 9 finds nothing at a child of it
pub record Sound (s : List ℕ) (f : ℕ) (t : List ℕ) (n i r : ℕ) : Type 0 where
  pub sized : 8 < r → size_ok t n i ≡ true
  pub body : 9 < r → 1 + i ≡ n → is_expression (kind_at t i) ≡ false
  pub placed : 9 < r → (k : ℕ) → k < n → wrong_child t (kind_at t i) (children t i) k ≡ false
  pub scoped : 11 < r → outside s f t n i ≡ false

-- so do the nodes before node i
abbrev pub SoundBefore : List ℕ → ℕ → List ℕ → ℕ → ℕ → ℕ → Type 0
SoundBefore s f t n i r = (k : ℕ) → k < i → Sound s f t n k r
