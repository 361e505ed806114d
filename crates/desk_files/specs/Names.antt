-- Names as they are printed.
use Rattle.std.specs.Prelude.{List, ℕ, ◌≤◌, ◌<◌, get_or}

-- the first n bytes are no control bytes below 32
pub record Plain (s : List ℕ) (n : ℕ) : Type 0 where
  pub each : (i : ℕ) → i < n → 32 ≤ get_or s i 0
