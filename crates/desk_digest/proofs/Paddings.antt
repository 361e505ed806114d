-- Laws on the padded message: its length, and the byte at a place.
use Rattle.std.proofs.Common.{◌≡◌, ℕ, zero, suc, ◌+◌, ◌-◌, ◌*◌, ◌/◌, ◌%◌, ◌^◌, ◌<◌, ◌≤◌, List, ◌∷◌, ◌++◌, length, get_or, replicate, sym, refl, ap, ◌∙◌, arith, length-append, get_or-append-add}
use Rattle.std.specs.Int.{w64, to_be_bytes}
use lib.ListN.{length-replicate, get_or-replicate, get_or-append}
use lib.Seq.{get_or-append_seam}
use Rattle.desk_digest.specs.Padding.{big_endian, zeros, padded}

-- k bytes are k bytes long
length_bytes : (k n : ℕ) → length (big_endian k n) ≡ k
unfolding big_endian
length_bytes zero n = refl
length_bytes (suc k) n = ap suc (length_bytes k n)

-- with the one bit's byte and the zeros the message is 56 bytes modulo 64
pub zeros_fit : (n : ℕ) → (n + 1 + zeros n) % 64 ≡ 56
unfolding zeros
zeros_fit n = omega arith

-- and with no fewer zeros
pub zeros_least : (n k : ℕ) → (n + 1 + k) % 64 ≡ 56 → zeros n ≤ k
unfolding zeros
zeros_least n k e = omega arith

-- the place of the length, 8 bytes before the end
before_length : (n : ℕ) → n + suc (zeros n) ≡ (n + 72) / 64 * 64 - 8
unfolding zeros
before_length n = omega arith

-- the padded message is whole blocks
pub padded_length : (m : List ℕ) → length (padded m) ≡ (length m + 72) / 64 * 64
unfolding padded
padded_length m =
    simp (length-append, length-replicate, length_bytes) (omega (arith, before_length (length m)))

-- every place of it is a number of 64 bits
pub inside : (m : List ℕ) (i : ℕ) → length m * 1 < 2 ^ 63 → i ≤ length (padded m) → i < 2 ^ 64
inside m i h l = omega (arith, padded_length m)

-- a place past the first of two lists
past : (x y : List ℕ) (i : ℕ) → length x ≤ i → get_or (x ++ y) i 0 ≡ get_or y (i - length x) 0
past x y i h = let e : i ≡ length x + (i - length x) = omega arith in ap (λ (k : ℕ). get_or (x ++ y) k 0) e ∙ get_or-append-add x y (i - length x) 0

-- the message stands first
pub at_message : (m : List ℕ) (i : ℕ) → i < length m → get_or m i 0 ≡ get_or (padded m) i 0
unfolding padded
at_message m i h = sym (get_or-append m _ 0 i h)

-- then the byte of the one bit
pub at_one : (m : List ℕ) (i : ℕ) → i ≡ length m → 0x80 ≡ get_or (padded m) i 0
unfolding padded
at_one m i e = rw e (sym (get_or-append_seam m 0x80 _ 0))

-- a place past the one bit
after_one : (m : List ℕ) (i : ℕ) → length m < i
    → get_or (padded m) i 0 ≡ get_or (replicate (zeros (length m)) 0 ++ big_endian 8 (length m * 8)) (i - length m - 1) 0
unfolding padded
after_one m i h =
    let e : i - length m ≡ suc (i - length m - 1) = omega arith in
    let l : length m ≤ i = omega arith in
    past m _ i l ∙ ap (λ (k : ℕ). get_or (0x80 ∷ (replicate (zeros (length m)) 0 ++ big_endian 8 (length m * 8))) k 0) e

-- a place among zeros
among : (z j : ℕ) (y : List ℕ) → j < z → 0 ≡ get_or (replicate z 0 ++ y) j 0
among z j y h =
    let l : j < length (replicate {A = ℕ} z 0) = rw (length-replicate {A = ℕ} z 0) h in
    sym (get_or-append (replicate z 0) y 0 j l ∙ get_or-replicate z j 0 0 h)

-- a place past zeros
beyond : (z j : ℕ) (y : List ℕ) → z ≤ j → get_or y (j - z) 0 ≡ get_or (replicate z 0 ++ y) j 0
beyond z j y h =
    let l : length (replicate {A = ℕ} z 0) ≤ j = rw (length-replicate {A = ℕ} z 0) h in
    sym (past (replicate z 0) y j l ∙ rw (length-replicate {A = ℕ} z 0))

-- then zeros
pub at_zero : (m : List ℕ) (i : ℕ) → length m < i → i < (length m + 72) / 64 * 64 - 8 → 0 ≡ get_or (padded m) i 0
at_zero m i h l =
    let j : i - length m - 1 < zeros (length m) = omega (arith, before_length (length m)) in
    rw (after_one m i h) (among _ _ _ j)

-- then the length
pub at_length : (m : List ℕ) (i : ℕ) → length m < i → (length m + 72) / 64 * 64 - 8 ≤ i
    → get_or (big_endian 8 (length m * 8)) (i - ((length m + 72) / 64 * 64 - 8)) 0 ≡ get_or (padded m) i 0
at_length m i h l =
    let e : i - ((length m + 72) / 64 * 64 - 8) ≡ i - length m - 1 - zeros (length m) = omega (arith, before_length (length m)) in
    let j : zeros (length m) ≤ i - length m - 1 = omega (arith, before_length (length m)) in
    rw (after_one m i h, e) (beyond _ _ _ j)

-- the bytes of a number that was taken modulo 2 ^ 64
pub length_bytes_low : (x : ℕ) → to_be_bytes w64 (x % 2 ^ 64) ≡ big_endian 8 x
unfolding big_endian
length_bytes_low x =
    let a : x % 2 ^ 64 / 256 ^ 7 % 256 ≡ x / 256 ^ 7 % 256 = omega arith in
    let b : x % 2 ^ 64 / 256 ^ 6 % 256 ≡ x / 256 ^ 6 % 256 = omega arith in
    let c : x % 2 ^ 64 / 256 ^ 5 % 256 ≡ x / 256 ^ 5 % 256 = omega arith in
    let d : x % 2 ^ 64 / 256 ^ 4 % 256 ≡ x / 256 ^ 4 % 256 = omega arith in
    let e : x % 2 ^ 64 / 256 ^ 3 % 256 ≡ x / 256 ^ 3 % 256 = omega arith in
    let f : x % 2 ^ 64 / 256 ^ 2 % 256 ≡ x / 256 ^ 2 % 256 = omega arith in
    let g : x % 2 ^ 64 / 256 % 256 ≡ x / 256 % 256 = omega arith in
    let h : x % 2 ^ 64 % 256 ≡ x / 1 % 256 = omega arith in
    cc
