-- The padding of a message, as in FIPS 180-4, section 5.1.1, in whole bytes.
use Rattle.std.specs.Prelude.{ℕ, zero, suc, ◌-◌, ◌*◌, ◌/◌, ◌%◌, ◌^◌, List, [], ◌∷◌, ◌++◌, length, replicate}

-- the low k bytes of n, the highest first
unfoldable pub big_endian : ℕ → ℕ → List ℕ
big_endian zero n = []
big_endian (suc k) n = n / 256 ^ k % 256 ∷ big_endian k n

-- how many zero bytes follow the one bit's byte: the least number that makes n + 1 and it 56 modulo 64
unfoldable pub zeros : ℕ → ℕ
zeros n = (119 - n % 64) % 64

-- the message, a one bit, zero bits, and the number of the message's bits in eight bytes
unfoldable pub padded : List ℕ → List ℕ
padded m = m ++ (0x80 ∷ (replicate (zeros (length m)) 0 ++ big_endian 8 (length m * 8)))
