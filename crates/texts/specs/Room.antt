-- A text put into a buffer.
use Rattle.std.specs.Prelude.{◌≡◌, List, ◌++◌, ℕ, ◌+◌, ◌-◌, ◌≤◌, ◌<◌, length, take, get_or}
use Rattle.std.specs.Borrow.{MutBor}

-- r bytes wait in the buffer, which is as long as before; where there was room for the text, they are those that waited and the text
pub record Put (before : List ℕ) (at : ℕ) (text after : List ℕ) (r : ℕ) : Type 0 where
  pub inside : r ≤ length after
  pub same : length after ≡ length before
  pub counted : at + length text ≤ length before → r ≡ at + length text
  pub waits : at + length text ≤ length before → take r after ≡ take at before ++ text

-- where the buffer has bytes at all, the last one that waits is b
abbrev pub Ends : List ℕ → ℕ → ℕ → Type 0
Ends bytes used b = 0 < length bytes → (0 < used) × (get_or bytes (used - 1) 0 ≡ b)

-- where the buffer has bytes at all, the last one that waits is no control byte below 32
abbrev pub EndsInside : List ℕ → ℕ → Type 0
EndsInside bytes used = 0 < length bytes → (0 < used) × (32 ≤ get_or bytes (used - 1) 0)

-- the buffer is the one that was lent, and as long as before
abbrev pub Lent : MutBor (List ℕ) → MutBor (List ℕ) → Type 0
Lent before after = (after.ghost_name ≡ before.ghost_name) × (length after.now ≡ length before.now)
