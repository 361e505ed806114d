-- The operands of a frame by the counts that its words give.
use mathlib.Core.Path.{◌≡◌, ◌∙◌}
use mathlib.Core.Bool.{Bool, true, false, ◌&&◌}
use mathlib.Core.List.{List}
use Prim.Native.Nat.{ℕ, suc, ◌+◌, ◌*◌, ◌-◌}
use native.Mathlib.Omega.{arith}
use lib.Dec.{eqb}
use lib.ListN.{length, drop}
use native.Mathlib.Numerals.{add-one}
use borrow.Author.Tests.{eq-eqb, ne_eqb}
use Rattle.varset.specs.Sets.{Set}
use Rattle.spec_machine.specs.Values.{Ty}
use Rattle.spec_machine.specs.Program.{Program}
use Rattle.spec_image.specs.Decode.{values_of, nodes_of}
use Rattle.spec_image.proofs.ValueWords.{length_values_of, length_nodes_of}
use Rattle.fit_frames.specs.Operands.{values_suit, nodes_suit, gathered}
use Rattle.fit_frames.proofs.OperandLaws.{gathered_count, gathered_each}

module _ (P : Program) (f : ℕ) (d : Set) (want : ℕ → Ty) (c : ℕ) (t : Ty) (l : List ℕ) (y z : ℕ) where
  abbrev whole : Bool
  whole = gathered P f d want c t (values_of y l) (nodes_of z (drop (2 * y) l))

  pub gather_count : (y + z + 1 ≡ c → ⊥) → whole ≡ false
  gather_count n =
      gathered_count P f d want c t (values_of y l) (nodes_of z (drop (2 * y) l))
      (λ e. n (omega (arith, e, length_values_of y l, length_nodes_of z (drop (2 * y) l))))

  module _ (e : y + z + 1 ≡ c) where
    each : whole ≡ (values_suit want 0 (values_of y l) && (eqb (want y) t && nodes_suit P f d want (suc y) (nodes_of z (drop (2 * y) l))))
    each =
        let q : length (values_of y l) + suc (length (nodes_of z (drop (2 * y) l))) ≡ c = omega (arith, length_values_of y l, length_nodes_of z (drop (2 * y) l)) in
        rw (length_values_of y l) at (gathered_each P f d want c t (values_of y l) (nodes_of z (drop (2 * y) l)) q)

    pub gather_values : values_suit want 0 (values_of y l) ≡ false → whole ≡ false
    gather_values q = each ∙ rw q

    pub gather_middle : values_suit want 0 (values_of y l) ≡ true → (want y ≡ t → ⊥) → whole ≡ false
    gather_middle q n = each ∙ rw (q, ne_eqb (want y) t n)

    pub gather_nodes : values_suit want 0 (values_of y l) ≡ true → want y ≡ t
        → whole ≡ nodes_suit P f d want (y + 1) (nodes_of (y + z - y) (drop (2 * y) l))
    gather_nodes q n =
        let o : y + z - y ≡ z = omega arith in
        each ∙ rw (q, eq-eqb (want y) t n, add-one y, o)
