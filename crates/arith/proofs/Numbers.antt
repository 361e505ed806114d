-- A number that is none of the first n.
use Rattle.std.proofs.Common.{◌≡◌, ℕ, zero, suc, ◌≤◌, sym, arith}
use lib.ListN.{get_or-eq_default}
use Rattle.arith.specs.Operators.{results, applied}
use Rattle.arith.specs.declared.Applied.TheVariants.{Arith}

-- what the last arm of a match on the first n numbers knows
abbrev pub None : ℕ → ℕ → Type 0
None k zero = Unit {0}
None k (suc n) = None k n × (k ≡ n → ⊥)

pub none_below : (k n : ℕ) → None k n → n ≤ k
none_below k zero h = omega arith
none_below k (suc n) h =
    let l : n ≤ k = none_below k n h.0 in
    let d : k ≡ n → ⊥ = h.1 in
    omega arith

-- there is no operator from 16 on
pub no_operator : (edition op a b : ℕ) → None op 16 → Arith ≡ applied edition op a b
unfolding applied results
no_operator edition op a b h = sym (get_or-eq_default (results edition a b) Arith (none_below op 16 h))
