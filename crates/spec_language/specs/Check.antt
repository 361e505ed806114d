-- The questions in order, each put to the whole file before the next.
use Rattle.std.specs.Prelude.{Some, Option, None, not, ◌||◌, List, [], ◌∷◌, ℕ, zero, suc, ◌+◌, ◌-◌, eqb, get_or}
use Rattle.varset.specs.Lowest.{pick}
use Rattle.records.specs.Fields.{functions, count_of}
use Rattle.records.specs.Parts.{start_of, part_of}
use Rattle.records.specs.Search.{At, first_of, shift, first_in, unless}
use Rattle.records.specs.declared.Found.{Found}
use Rattle.spec_language.specs.Records.{length_ok, header_ok, records_ok, function_ok, sum_ok, main_ok}
use Rattle.spec_language.specs.Nodes.{answers}

-- the answer to a question: accepted, or its number with the place and the item
pub data Verdict : Type 0 where
  accepted : Verdict
  refused : ℕ → ℕ → ℕ → Verdict

-- a question's number, and what fails it
pub data Asked : Type 0 where
  ask : ℕ → Option Found → Asked

-- the record that the places of question q in function f are counted from: the function's own for 10 and 14, else its first node
unfoldable pub origin_of : ℕ → List ℕ → ℕ → ℕ
origin_of q s f = pick (eqb q 10 || eqb q 14) (1 + f) (start_of s f)

-- what fails question q, from 7 to 14, in function f
unfoldable pub in_part : ℕ → List ℕ → ℕ → Option Found
in_part q s f = shift (origin_of q s f) (get_or (answers s f (part_of s f) (count_of s f)) (q - 7) None)

-- m questions from q on, each put to every function
unfoldable pub part_questions : List ℕ → ℕ → ℕ → List Asked
part_questions s zero q = []
part_questions s (suc m) q = ask q (first_in (in_part q s) (functions s) 0) ∷ part_questions s m (suc q)

-- questions 1 to 14
unfoldable pub questions : List ℕ → List Asked
questions s =
    ask 1 (unless (length_ok s) 0)
    ∷ ask 2 (unless (header_ok s) 0)
    ∷ ask 3 (unless (records_ok s) 0)
    ∷ ask 4 (shift 1 (first_of (λ f. not (function_ok s f)) (functions s)))
    ∷ ask 5 (unless (sum_ok s) 0)
    ∷ ask 6 (unless (main_ok s) 1)
    ∷ part_questions s 8 7

-- no to question q at the place found, or else what the later questions answer
unfoldable pub refuse : ℕ → Option Found → Verdict → Verdict
refuse q (Some found) later = refused q found.place found.item
refuse q None later = later

-- the first no
unfoldable pub first_refusal : List Asked → Verdict
first_refusal [] = accepted
first_refusal (ask q found ∷ rest) = refuse q found (first_refusal rest)

-- the check
unfoldable pub check_of : List ℕ → Verdict
check_of s = first_refusal (questions s)
