-- The lowest record that fails a test.
use Rattle.std.specs.Prelude.{Bool, true, false, ℕ, zero, suc, ◌+◌, ltb, Option, Some, None}
use Rattle.varset.specs.Lowest.{pick, lowest}
use Rattle.records.specs.declared.Found.{Found}

-- the place and the item that are found
abbrev pub At : ℕ → ℕ → Option Found
At place item = Some (record { place = place; item = item })

-- the lowest of n numbers that passes the test p
unfoldable pub first_of : (ℕ → Bool) → ℕ → Option Found
first_of p n = pick (ltb (lowest p n) n) (At (lowest p n) 0) None

-- the place counted from k on
unfoldable pub shift : ℕ → Option Found → Option Found
shift k (Some found) = At (k + found.place) found.item
shift k None = None

-- what the first search finds, or else the second
unfoldable pub or_else : Option Found → Option Found → Option Found
or_else (Some found) later = Some found
or_else None later = later

-- what the first of `left` searches from f on finds that finds anything
unfoldable pub first_in : (ℕ → Option Found) → ℕ → ℕ → Option Found
first_in t zero f = None
first_in t (suc left) f = or_else (t f) (first_in t left (suc f))

-- the place of a record where the test fails
unfoldable pub unless : Bool → ℕ → Option Found
unless b place = pick b None (At place 0)

-- whether a search found nothing
abbrev pub clear : Option Found → Bool
clear (Some found) = false
clear None = true
