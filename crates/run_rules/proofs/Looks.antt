-- What stands at a node of a known kind.
use mathlib.Core.Path.{◌≡◌, refl}
use mathlib.Core.List.{List}
use Prim.Native.Nat.{ℕ, ◌+◌, ◌*◌, ◌-◌, ◌≤◌}
use native.Mathlib.Omega.{arith}
use lib.Dec.{eqb}
use lib.ListN.{get_or}
use Rattle.records.specs.Fields.{count_of, kind_at, b_at}
use Rattle.records.specs.Parts.{start_of, part_of}
use Rattle.records.proofs.PartWalks.{part-byte}
use Rattle.spec_machine.specs.Values.{nothing, int, truth}
use Rattle.spec_machine.specs.Program.{const}
use Rattle.spec_machine.specs.Machine.{eval, reach_l}
use Rattle.spec_machine.specs.File.{looks, look_at}
use Rattle.spec_machine.proofs.Levels.{by_look}

module _ (t : List ℕ) (i : ℕ) where
  pub look_int : kind_at t i ≡ 0 → look_at t i ≡ const (int (b_at t i))
  unfolding look_at looks
  look_int e = rw e

  pub look_bool : kind_at t i ≡ 1 → look_at t i ≡ const (truth (eqb (b_at t i) 1))
  unfolding look_at looks
  look_bool e = rw e

  pub look_nothing : kind_at t i ≡ 15 → look_at t i ≡ const nothing
  unfolding look_at looks
  look_nothing e = rw e

  -- what is no constant is to evaluate
  pub reach_other : (kind_at t i ≡ 0 → ⊥) → (kind_at t i ≡ 1 → ⊥) → (kind_at t i ≡ 15 → ⊥) → eval i ≡ reach_l i (look_at t i)
  reach_other a b c =
      by_look t i (λ x. eval i ≡ reach_l i x) (λ e. absurd (a e)) (λ e. absurd (b e)) (λ e. refl) (λ e. refl) (λ e. refl) (λ e. refl) (λ e. absurd (c e)) (λ n. refl)

-- the kind of the last node of a part, in the file
pub body_kind : (s : List ℕ) (g start count : ℕ) → start ≡ 12 * start_of s g → count ≡ count_of s g → 1 ≤ count
    → kind_at (part_of s g) (count_of s g - 1) ≡ get_or s (start + (12 * (count - 1) + 2)) 0
unfolding kind_at
body_kind s g start count a b p = rw (a, b) (part-byte s g (12 * (count_of s g - 1) + 2) (omega arith))
