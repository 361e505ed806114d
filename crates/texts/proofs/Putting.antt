-- A text put into a buffer byte by byte.
use Rattle.std.proofs.Common.{◌-◌, ◌<◌, ℕ, List, take, get_or}
use Rattle.std.specs.Borrow.{MutBor}
use Rattle.texts.specs.Room.{Put, Ends, Lent}

-- the first i bytes of a text are put, and the last of them is the last one that waits
pub record Putting (before : MutBor (List ℕ)) (at : ℕ) (text : List ℕ) (after : MutBor (List ℕ)) (n i : ℕ) : Type 0 where
  pub lent : Lent before after
  pub put : Put before.now at (take i text) after.now n
  pub last : 0 < i → Ends after.now n (get_or text (i - 1) 0)
