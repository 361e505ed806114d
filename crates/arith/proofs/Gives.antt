-- Operators 0 to 9 give an int or raise arith, and 10 to 15 give bool.
use Rattle.std.proofs.Common.{◌≡◌, ℕ, zero, suc, ◌+◌, ◌%◌, ◌^◌, ◌<◌, ◌≤◌, Bool, true, false, eqb, List, get_or, lt_of_le_of_lt, arith}
use native.Mathlib.Decide.{ℕ_discrete}
use lib.Bits.{and_le_l, or_lt, xor_lt}
use Rattle.varset.specs.Lowest.{pick}
use Rattle.arith.specs.Operators.{add_of, sub_of, mul_of, quot_of, rem_of, shl_of, shr_of, and_of, or_of, xor_of, no_quotient, divided, no_shift, shifted, results, applied}
use Rattle.arith.specs.declared.Applied.{Applied}
use Rattle.arith.specs.declared.Applied.TheVariants.{Int, Truth, Arith}
use Rattle.arith.proofs.WordInts.{wrap_below}

-- an int that is a word, or arith
abbrev pub GivesInt : Applied → Type 0
GivesInt (Int w) = w < 2 ^ 32
GivesInt (Truth t) = ⊥
GivesInt Arith = Unit {0}

-- a bool
abbrev pub GivesBool : Applied → Type 0
GivesBool (Int w) = ⊥
GivesBool (Truth t) = Unit {0}
GivesBool Arith = ⊥

infixr 2 ◌and◌
abbrev ◌and◌ : {A B : Type 0} → A → B → A × B
x and y = (x, y)

-- n results from number lo on have P
abbrev Each : (Applied → Type 0) → List Applied → ℕ → ℕ → Type 0
Each P l lo zero = Unit {0}
Each P l lo (suc n) = P (get_or l lo Arith) × Each P l (suc lo) n

each : (P : Applied → Type 0) (l : List Applied) (lo n k : ℕ) → Each P l lo n → lo ≤ k → k < lo + n → P (get_or l k Arith)
each P l lo zero k h p q = absurd (omega arith)
each P l lo (suc n) k h p q = go (each P l (suc lo) n k h.1) (ℕ_discrete k lo)
  where
    go : (suc lo ≤ k → k < suc lo + n → P (get_or l k Arith)) → Dec (k ≡ lo) → P (get_or l k Arith)
    go later (yes e) = rw e h.0
    go later (no d) = later (omega arith) (omega arith)

picked : (Q : Applied → Type 0) (t : Bool) {x y : Applied} → Q x → Q y → Q (pick t x y)
picked Q true h k = h
picked Q false h k = k

-- what arith and the result have, a division has
pub divided_has : (Q : Applied → Type 0) (a b c : ℕ) → Q Arith → Q (Int c) → Q (divided a b c)
unfolding divided
divided_has Q a b c z h = picked Q (no_quotient a b) z h

-- what arith and all results have, a shift has
pub shifted_has : (Q : Applied → Type 0) (edition : ℕ) (shift : ℕ → ℕ) (count : ℕ) → Q Arith → ((n : ℕ) → Q (Int (shift n))) → Q (shifted edition shift count)
unfolding shifted
shifted_has Q edition shift count z h = picked Q (eqb edition 0) (h (count % 32)) (picked Q (no_shift count) z (h count))

module _ (edition op a b : ℕ) where
  -- operators 0 to 9 of words
  pub gives_int : op < 10 → a < 2 ^ 32 → b < 2 ^ 32 → GivesInt (applied edition op a b)
  unfolding applied results add_of sub_of mul_of quot_of rem_of shl_of shr_of and_of or_of xor_of
  gives_int h ha hb = each GivesInt (results edition a b) 0 10 op words (omega arith) h
    where
      words : Each GivesInt (results edition a b) 0 10
      words =
          wrap_below _
          and wrap_below _
          and wrap_below _
          and divided_has GivesInt a b _ tt (wrap_below _)
          and divided_has GivesInt a b _ tt (wrap_below _)
          and shifted_has GivesInt edition (shl_of a) b tt (λ n. wrap_below _)
          and shifted_has GivesInt edition (shr_of a) b tt (λ n. wrap_below _)
          and lt_of_le_of_lt (and_le_l a b) ha
          and or_lt 32 a b ha hb
          and xor_lt 32 a b ha hb
          and tt

  -- operators 10 to 15
  pub gives_bool : 10 ≤ op → op < 16 → GivesBool (applied edition op a b)
  unfolding applied results
  gives_bool h k = each GivesBool (results edition a b) 10 6 op (tt and tt and tt and tt and tt and tt and tt) h k
