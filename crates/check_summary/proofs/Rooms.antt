-- How many nodes the parts of a file have, and the words that a table for them wants.
use mathlib.Core.List.{List}
use mathlib.Core.Logic.{◌⊎◌, inl, inr}
use Prim.Native.Nat.{ℕ, ◌+◌, ◌*◌, ◌≤◌, ◌<◌}
use native.Mathlib.Omega.{arith}
use lib.ListN.{length}
use Rattle.records.specs.Format.{most_nodes}
use Rattle.records.specs.Fields.{functions, count_of}
use Rattle.records.specs.Parts.{start_of, Laid}

-- the parts of a file with records for at most k nodes have at most k, and so have those of any file where k are the most nodes
pub parts_within : (s : List ℕ) (k : ℕ) → Laid s → (length s ≤ 12 * (1 + functions s + k)) ⊎ (most_nodes ≤ k) → (f : ℕ) → f < functions s → count_of s f ≤ k
unfolding start_of
parts_within s k laid (inl h) f l = omega (arith, laid.fits f l)
parts_within s k laid (inr h) f l = omega (arith, laid.small f l)

-- five words for each have room for every part
pub table_room : (s : List ℕ) (k : ℕ) → Laid s → (length s ≤ 12 * (1 + functions s + k)) ⊎ (most_nodes ≤ k) → (f : ℕ) → f < functions s → 5 * count_of s f ≤ 5 * k
table_room s k laid h f l = omega (arith, parts_within s k laid h f l)
