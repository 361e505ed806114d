-- Sets of variables: which numbers are members. A word stands for the set whose members are its set bits, at any width.
use Rattle.std.specs.Prelude.{◌≡◌, Bool, true, false, not, ◌&&◌, ◌||◌, ℕ, ◌/◌, ◌%◌, ◌^◌, eqb, ltb}

-- a set of variables
abbrev pub Set : Type 0
Set = ℕ → Bool

-- the members of a word: bit i of n
unfoldable pub has : ℕ → Set
has n i = eqb (n / 2 ^ i % 2) 1

-- no member
unfoldable pub none : Set
none j = false

-- i added
unfoldable pub with : Set → ℕ → Set
with s i j = s j || eqb j i

-- i removed
unfoldable pub without : Set → ℕ → Set
without s i j = s j && not (eqb j i)

-- what two share
unfoldable pub both : Set → Set → Set
both s t j = s j && t j

-- what either has
unfoldable pub either : Set → Set → Set
either s t j = s j || t j

-- what s has and t has not
unfoldable pub less : Set → Set → Set
less s t j = s j && not (t j)

-- the numbers below n
unfoldable pub below : ℕ → Set
below n j = ltb j n

-- each member of d is one of e
abbrev pub Sub : Set → Set → Type 0
Sub d e = (x : ℕ) → d x ≡ true → e x ≡ true
