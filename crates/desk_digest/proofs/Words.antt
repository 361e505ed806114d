-- Laws on words: the library's rotation and bytes are the standard's.
use Rattle.std.proofs.Common.{◌≡◌, ℕ, ◌-◌, ◌%◌, ◌<◌, arith, div-one}
use Rattle.std.specs.Int.{w32, rotate_right, to_be_bytes}
use Rattle.desk_digest.specs.Words.{rotr}
use Rattle.desk_digest.specs.Padding.{big_endian}

pub turned_right : (r x n : ℕ) → 0 < n → n < 32 → r ≡ rotate_right w32 x n → r ≡ rotr n x
unfolding rotr
turned_right r x n p h e =
    let f : n % 32 ≡ n = omega arith in
    let g : (32 - n) % 32 ≡ 32 - n = omega arith in
    rw (e, f, g)

pub word_bytes : (x : ℕ) → to_be_bytes w32 x ≡ big_endian 4 x
unfolding big_endian
word_bytes x = simp div-one
