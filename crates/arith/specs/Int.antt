-- Integers of 32 bits. A word is a number below 2 ^ 32.
use Rattle.std.specs.Prelude.{ℕ, ◌-◌, ◌%◌, ◌^◌, ℤ, pos, negsuc, ◌-ℤ◌, nat_lt}
use Rattle.varset.specs.Lowest.{pick}

-- a word read as signed
unfoldable pub int : ℕ → ℤ
int a = pick (nat_lt a (2 ^ 31)) (pos a) (pos a -ℤ pos (2 ^ 32))

-- an integer modulo 2 ^ 32; `negsuc n` is −(n + 1)
unfoldable pub wrap : ℤ → ℕ
wrap (pos n) = n % 2 ^ 32
wrap (negsuc n) = 2 ^ 32 - 1 - n % 2 ^ 32
