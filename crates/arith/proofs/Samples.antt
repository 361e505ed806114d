-- Worked results of the operators, by computation.
use Rattle.std.proofs.Common.{◌≡◌, ℕ, true, false, eqb, List, [], ◌∷◌, map, ℤ, pos, neg_ℤ, refl}
use Rattle.varset.specs.Lowest.{pick}
use Rattle.arith.specs.Int.{int, wrap}
use Rattle.arith.specs.Operators.{add_of, sub_of, mul_of, quot_of, rem_of, shl_of, shr_of, and_of, or_of, xor_of, lt_of, le_of, gt_of, ge_of, eq_of, ne_of, no_quotient, divided, no_shift, shifted, results, applied}
use Rattle.arith.specs.declared.Applied.{Applied}
use Rattle.arith.specs.declared.Applied.TheVariants.{Int, Truth, Arith}

-- an operator's number, the integers that it is applied to, and what it gives: in editions 0 and 1, or in each
pub data Sample : Type 0 where
  sample : ℕ → ℤ → ℤ → Applied → Sample
  apart : ℕ → ℤ → ℤ → Applied → Applied → Sample

abbrev pub minus : ℕ → ℤ
minus n = neg_ℤ (pos n)

-- −2^31
abbrev pub least : ℤ
least = minus 2147483648

-- 2^31 − 1
abbrev pub greatest : ℤ
greatest = pos 2147483647

abbrev is : ℤ → Applied
is z = Int (wrap z)

abbrev pub samples : List Sample
samples =
    sample 3 (minus 7) (pos 2) (is (minus 3))
    ∷ sample 4 (minus 7) (pos 2) (is (minus 1))
    ∷ sample 3 (pos 7) (minus 2) (is (minus 3))
    ∷ sample 4 (pos 7) (minus 2) (is (pos 1))
    ∷ sample 4 (minus 7) (minus 2) (is (minus 1))
    ∷ sample 3 (pos 1) (pos 0) Arith
    ∷ sample 4 (pos 1) (pos 0) Arith
    ∷ sample 3 least (minus 1) Arith
    ∷ sample 4 least (minus 1) Arith
    ∷ sample 4 (pos 5) (minus 1) (is (pos 0))
    ∷ sample 3 least (pos 1) (is least)
    ∷ sample 0 greatest (pos 1) (is least)
    ∷ sample 2 (pos 65536) (pos 65536) (is (pos 0))
    ∷ sample 2 greatest greatest (is (pos 1))
    ∷ sample 2 least (minus 1) (is least)
    ∷ sample 1 (pos 0) least (is least)
    ∷ sample 1 least (pos 1) (is greatest)
    ∷ apart 5 (pos 1) least (is (pos 1)) Arith
    ∷ apart 5 (pos 1) (minus 32) (is (pos 1)) Arith
    ∷ apart 5 (pos 1) (minus 1) (is least) Arith
    ∷ sample 5 (pos 1) (pos 0) (is (pos 1))
    ∷ sample 5 (pos 1) (pos 31) (is least)
    ∷ apart 5 (pos 1) (pos 32) (is (pos 1)) Arith
    ∷ apart 5 (pos 0) (pos 32) (is (pos 0)) Arith
    ∷ apart 5 (pos 1) greatest (is least) Arith
    ∷ apart 6 (minus 8) least (is (minus 8)) Arith
    ∷ apart 6 (minus 8) (minus 31) (is (minus 4)) Arith
    ∷ apart 6 (minus 8) (minus 1) (is (minus 1)) Arith
    ∷ sample 6 (minus 8) (pos 0) (is (minus 8))
    ∷ sample 6 (minus 8) (pos 31) (is (minus 1))
    ∷ sample 6 least (pos 31) (is (minus 1))
    ∷ apart 6 (minus 8) (pos 32) (is (minus 8)) Arith
    ∷ apart 6 (minus 8) greatest (is (minus 1)) Arith
    ∷ sample 10 greatest least (Truth false)
    ∷ sample 11 least greatest (Truth true)
    ∷ sample 12 greatest least (Truth true)
    ∷ sample 13 least greatest (Truth false)
    ∷ sample 14 (minus 1) (minus 1) (Truth true)
    ∷ sample 15 (minus 1) (pos 1) (Truth true)
    ∷ sample 7 (minus 1) least (is least)
    ∷ sample 8 greatest least (is (minus 1))
    ∷ sample 9 (minus 1) greatest (is least)
    ∷ []

abbrev found : ℕ → Sample → Applied
found edition (sample op x y r) = applied edition op (wrap x) (wrap y)
found edition (apart op x y r q) = applied edition op (wrap x) (wrap y)

abbrev told : ℕ → Sample → Applied
told edition (sample op x y r) = r
told edition (apart op x y r q) = pick (eqb edition 0) r q

-- in an edition each operator gives of the integers what is told
abbrev Right : ℕ → Type 0
Right edition = map (found edition) samples ≡ map (told edition) samples

pub worked : Right 0 × Right 1
unfolding int wrap add_of sub_of mul_of quot_of rem_of shl_of shr_of and_of or_of xor_of lt_of le_of gt_of ge_of eq_of ne_of no_quotient divided no_shift shifted results applied
worked = (refl, refl)
