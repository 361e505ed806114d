-- The reference of a word above zero, by its remainder by three.
use mathlib.Core.Path.{◌≡◌, refl}
use Prim.Native.Nat.{ℕ, zero, suc, ◌-◌, ◌/◌, ◌%◌, ◌<◌}
use native.Mathlib.Omega.{arith}
use native.Mathlib.Numerals.{unary_clauses}
use lib.Dec.{eqb}
use borrow.Author.Tests.{ne_eqb}
use Rattle.varset.specs.Lowest.{pick}
use Rattle.spec_machine.specs.Program.{node, if_of, seq_of}
use Rattle.spec_image.specs.Decode.{ref_of}

-- what ref_of says of a word above zero, by the word before it
ref_above : (w : ℕ) → 0 < w → ref_of w ≡ pick (eqb ((w - 1) % 3) 0) (node ((w - 1) / 3)) (pick (eqb ((w - 1) % 3) 1) (if_of ((w - 1) / 3)) (seq_of ((w - 1) / 3)))
unfolding ref_of
ref_above zero h = absurd (omega arith)
ref_above (suc m) h = simp unary_clauses refl

module _ (w : ℕ) (p : 0 < w) where
  pub ref_node : (w - 1) % 3 ≡ 0 → ref_of w ≡ node ((w - 1) / 3)
  ref_node e = rw (ref_above w p, e)

  pub ref_if : (w - 1) % 3 ≡ 1 → ref_of w ≡ if_of ((w - 1) / 3)
  ref_if e = rw (ref_above w p, e)

  pub ref_seq : ((w - 1) % 3 ≡ 0 → ⊥) → ((w - 1) % 3 ≡ 1 → ⊥) → ref_of w ≡ seq_of ((w - 1) / 3)
  ref_seq a b = rw (ref_above w p, ne_eqb _ 0 a, ne_eqb _ 1 b)
