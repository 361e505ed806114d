-- The questions from 4 on, and the facts that the questions from 10 on lean on.
use Rattle.std.specs.Prelude.{None, Ok, Err, ◌≡◌, not, List, ◌∷◌, ℕ, ◌*◌, ◌≤◌, ◌<◌, length}
use Rattle.records.specs.Format.{longest_file}
use Rattle.records.specs.Fields.{functions, count_of}
use Rattle.records.specs.Parts.{part_of, Laid}
use Rattle.records.specs.Search.{first_of, shift, first_in, unless}
use Rattle.spec_language.specs.Records.{function_ok, sum_ok, main_ok}
use Rattle.spec_language.specs.Check.{Asked, ask, in_part, part_questions, first_refusal}
use Rattle.spec_language.specs.Known.{Known, CallsKnown, WellFormed}
use Rattle.check_file.specs.Answers.{Answer, says}

-- questions 4 to 14
unfoldable pub from_four : List ℕ → List Asked
from_four s =
    ask 4 (shift 1 (first_of (λ f. not (function_ok s f)) (functions s)))
    ∷ ask 5 (unless (sum_ok s) 0)
    ∷ ask 6 (unless (main_ok s) 1)
    ∷ part_questions s 8 7

-- the questions from 7 to before q find nothing
abbrev pub PassedBefore : List ℕ → ℕ → Type 0
PassedBefore s q = (k : ℕ) → 7 ≤ k → k < q → first_in (in_part k s) (functions s) 0 ≡ None

-- the least question that may fail is r or a later one
abbrev pub FloorIs : List ℕ → ℕ → Type 0
FloorIs s r = PassedBefore s r × (7 ≤ r) × (r ≤ 15)

-- past question 9 the nodes of every function are known, and past question 12 they are those of a tree
abbrev pub Ready : List ℕ → ℕ → Type 0
Ready s q =
    (9 < q → (f : ℕ) → f < functions s → Known (part_of s f) (count_of s f) × CallsKnown (functions s) (part_of s f) (count_of s f))
    × (12 < q → (f : ℕ) → f < functions s → WellFormed (part_of s f) (count_of s f))

-- no part has more than k nodes
abbrev pub PartsWithin : List ℕ → ℕ → Type 0
PartsWithin s k = (f : ℕ) → f < functions s → count_of s f ≤ k

-- a table of k words has room for the summaries of each part
abbrev pub TableRoom : List ℕ → ℕ → Type 0
TableRoom s k = (f : ℕ) → f < functions s → 5 * count_of s f ≤ k

-- the answer of the questions up to before q: none of them fails, or the check's refusal
abbrev pub AnswersTo : List ℕ → ℕ → Answer → Type 0
AnswersTo s q (Ok u) = PassedBefore s q
AnswersTo s q (Err r) = says (Err r) ≡ first_refusal (part_questions s 8 7)

-- what is known where questions 13 and 14 are put, from q on
abbrev pub AtFlows : List ℕ → ℕ → Type 0
AtFlows s q = Laid s × (length s ≤ longest_file) × (13 ≤ q) × PassedBefore s q
