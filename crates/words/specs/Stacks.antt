-- Stacks of entries as blocks of w words each, the bottom entry first; the top is the head of the list.
use Rattle.std.specs.Prelude.{◌≡◌, Bool, ◌&&◌, List, [], ◌∷◌, ◌++◌, ℕ, zero, suc, ◌+◌, ◌*◌, ◌-◌, take, drop, length, replicate}

module _ {E : Type 0} (enc : E → List ℕ) where
  -- the words of a stack, its top last
  abbrev pub words : List E → List ℕ
  words [] = []
  words (f ∷ K) = words K ++ enc f

module _ {E : Type 0} (w : ℕ) (enc : E → List ℕ) where
  -- a stack in the room of m entries, zeros above it
  abbrev pub region : ℕ → List E → List ℕ
  region m K = words enc K ++ replicate ((m - length K) * w) 0

-- the block of an entry with n entries under it, in a stack that begins at a place
abbrev pub block_at : ℕ → List ℕ → ℕ → ℕ → List ℕ
block_at w l at n = take w (drop (at + n * w) l)

module _ {E : Type 0} (w : ℕ) (dec : List ℕ → E) where
  -- n entries read from a place on, the top first
  abbrev pub entries : List ℕ → ℕ → ℕ → List E
  entries l at zero = []
  entries l at (suc n) = dec (block_at w l at n) ∷ entries l at n

module _ {E : Type 0} (P : E → Type 0) where
  -- what holds of every entry
  abbrev pub Every : List E → Type 0
  Every [] = Unit {0}
  Every (f ∷ K) = P f × Every K

module _ {E : Type 0} (w : ℕ) (enc : E → List ℕ) where
  -- an entry has a block of w words
  abbrev pub Wide : E → Type 0
  Wide f = length (enc f) ≡ w

module _ {E : Type 0} (enc : E → List ℕ) (dec : List ℕ → E) where
  -- an entry is what its block is read as
  abbrev pub Back : E → Type 0
  Back f = dec (enc f) ≡ f

module _ {E : Type 0} (count : E → ℕ) where
  -- the counts of all entries together
  abbrev pub total : List E → ℕ
  total [] = 0
  total (x ∷ xs) = count x + total xs

module _ {E S : Type 0} (ok : S → E → Bool) (go : S → E → S) (end : S → Bool) where
  -- from the top down: each entry is ok for what comes down to it, and hands on what it makes of that
  abbrev pub chain : S → List E → Bool
  chain s [] = end s
  chain s (f ∷ K) = ok s f && chain (go s f) K
