-- The answers of run and look-up as numbers.
use Rattle.std.specs.Prelude.{Result, Ok, Err, List, [], ◌∷◌, ℕ, leb, length}
use Rattle.varset.specs.Lowest.{pick}
use Rattle.words.specs.Blocks.{puts}
use Rattle.arith.specs.Int.{wrap}
use Rattle.spec_image.specs.Layout.{bit}
use Rattle.run_loop.specs.declared.Outcome.{Outcome}
use Rattle.run_loop.specs.declared.Outcome.TheVariants.{Value, Arith, Abort, Spent, Full}
use Rattle.check_file.specs.declared.Refusal.{Refusal}
use Rattle.entry_run.specs.Replies.{Reply}
use Rattle.entry_memory.specs.declared.Look.{Look}
use Rattle.entry_memory.specs.declared.Look.TheVariants.{Nothing, Int, Truth}
use Rattle.panelrue_c.specs.Packed.{packed_refusal}

-- the number of an outcome, and the word of its int
unfoldable pub outcome_number : Outcome → ℕ
outcome_number (Value z) = 0
outcome_number Arith = 1
outcome_number Abort = 2
outcome_number Spent = 3
outcome_number Full = 4

unfoldable pub outcome_word : Outcome → ℕ
outcome_word (Value z) = wrap z
outcome_word Arith = 0
outcome_word Abort = 0
outcome_word Spent = 0
outcome_word Full = 0

-- 0 where the run was accepted; else the number of the refusal
unfoldable pub run_number : Reply → ℕ
run_number (Ok r) = 0
run_number (Err r) = packed_refusal r

-- outcome, int and steps of an accepted run, where the host has room for three words
unfoldable pub run_words : Reply → List ℕ → List ℕ
run_words (Ok r) l = pick (leb 3 (length l)) (puts l 0 0 (outcome_number r.outcome ∷ outcome_word r.outcome ∷ r.steps ∷ [])) l
run_words (Err r) l = l

-- 0 where the look-up was accepted; else the number of the refusal
unfoldable pub look_number : Result Look Refusal → ℕ
look_number (Ok l) = 0
look_number (Err r) = packed_refusal r

-- the type and the word of what a variable holds
unfoldable pub look_kind : Look → ℕ
look_kind Nothing = 0
look_kind (Int z) = 1
look_kind (Truth b) = 2

unfoldable pub look_word : Look → ℕ
look_word Nothing = 0
look_word (Int z) = wrap z
look_word (Truth b) = bit b

-- both for the host, where it has room for two words
unfoldable pub look_words : Result Look Refusal → List ℕ → List ℕ
look_words (Ok l) w = pick (leb 2 (length w)) (puts w 0 0 (look_kind l ∷ look_word l ∷ [])) w
look_words (Err r) w = w
