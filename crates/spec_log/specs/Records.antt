-- The record of a step: its bytes, and what the last record of a log says.
use Rattle.std.specs.Prelude.{Bool, ◌&&◌, List, [], ◌∷◌, ◌++◌, ℕ, zero, suc, ◌+◌, ◌*◌, ◌-◌, ◌/◌, ◌%◌, eqb, leb, length}
use Rattle.varset.specs.Lowest.{pick}
use Rattle.records.specs.Bytes.{u16_at, u32_at}
use Rattle.spec_image.specs.Sizes.{size}
use Rattle.spec_log.specs.Changes.{Change, change, changes, restored}

-- a number in two bytes and in four, the lowest first
abbrev pub two : ℕ → List ℕ
two n = n % 256 ∷ n / 256 % 256 ∷ []

abbrev pub four : ℕ → List ℕ
four n = n % 256 ∷ n / 256 % 256 ∷ n / 65536 % 256 ∷ n / 16777216 % 256 ∷ []

-- the mark "BK", as bytes and as the number that they are read as
abbrev pub mark : List ℕ
mark = 66 ∷ 75 ∷ []

abbrev pub mark_number : ℕ
mark_number = 19266

-- the number of changes in a record that has all words in their place, and the most changes of one that has not
abbrev pub whole_number : ℕ
whole_number = 65535

abbrev pub most_changes : ℕ
most_changes = 10922

-- the bytes of a record by its number: mark, changes of six bytes or all words of four, and the number
unfoldable pub bytes_of : ℕ → ℕ
bytes_of n = pick (eqb n whole_number) (4 + 4 * size) (4 + 6 * n)

-- no record is longer
abbrev pub longest : ℕ
longest = 4 + 4 * size

-- each change: its place and the word that was there
unfoldable pub change_bytes : List Change → List ℕ
change_bytes [] = []
change_bytes (change i x ∷ cs) = two i ++ (four x ++ change_bytes cs)

unfoldable pub word_bytes : List ℕ → List ℕ
word_bytes [] = []
word_bytes (x ∷ l) = four x ++ word_bytes l

-- the record of a step that made the words b of the words a: the changes, or all words where these would be longer
unfoldable pub record_of : List ℕ → List ℕ → List ℕ
record_of a b =
    let cs = changes 0 a b in
    pick (leb (length cs) most_changes) (mark ++ (change_bytes cs ++ two (length cs))) (mark ++ (word_bytes a ++ two whole_number))

-- so many changes, or words, read from a place on
unfoldable pub changes_at : List ℕ → ℕ → ℕ → List Change
changes_at log at zero = []
changes_at log at (suc n) = change (u16_at log at) (u32_at log (at + 2)) ∷ changes_at log (at + 6) n

unfoldable pub words_at : List ℕ → ℕ → ℕ → List ℕ
words_at log at zero = []
words_at log at (suc n) = u32_at log at ∷ words_at log (at + 4) n

-- the number that ends the used part of a log, and the bytes of a record with that number
unfoldable pub last_number : List ℕ → ℕ → ℕ
last_number log used = u16_at log (used - 2)

unfoldable pub last_bytes : List ℕ → ℕ → ℕ
last_bytes log used = bytes_of (last_number log used)

-- whether a whole record ends the used part of a log
unfoldable pub has_record : List ℕ → ℕ → Bool
has_record log used =
    leb used (length log) && (leb (last_bytes log used) longest && (leb (last_bytes log used) used && eqb (u16_at log (used - last_bytes log used)) mark_number))

-- the words before the step, by the last record and the words after it
unfoldable pub earlier : List ℕ → ℕ → List ℕ → List ℕ
earlier log used w =
    let at = used - last_bytes log used + 2 in
    pick (eqb (last_number log used) whole_number) (words_at log at size) (restored (changes_at log at (last_number log used)) w)
