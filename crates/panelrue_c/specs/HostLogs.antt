-- The answers of a logged run and of a step back as numbers.
use Rattle.std.specs.Prelude.{Ok, Err, List, [], ◌∷◌, ℕ, leb, length}
use Rattle.varset.specs.Lowest.{pick}
use Rattle.words.specs.Blocks.{puts}
use Rattle.entry_log.specs.declared.Stop.{Stop}
use Rattle.entry_log.specs.declared.Stop.TheVariants.{Ended, LogFull}
use Rattle.entry_log.specs.Replies.{LogReply, BackReply}
use Rattle.panelrue_c.specs.Packed.{packed_refusal}
use Rattle.panelrue_c.specs.HostAnswers.{outcome_number, outcome_word}

-- the number of a stop, and the word of its int
unfoldable pub stop_number : Stop → ℕ
stop_number (Ended o) = outcome_number o
stop_number LogFull = 5

unfoldable pub stop_word : Stop → ℕ
stop_word (Ended o) = outcome_word o
stop_word LogFull = 0

-- 0 where the logged run was accepted; else the number of the refusal
unfoldable pub log_number : LogReply → ℕ
log_number (Ok r) = 0
log_number (Err r) = packed_refusal r

-- outcome, int, steps and used length of an accepted one, where the host has room for four words
unfoldable pub log_words : LogReply → List ℕ → List ℕ
log_words (Ok r) l = pick (leb 4 (length l)) (puts l 0 0 (stop_number r.stop ∷ stop_word r.stop ∷ r.steps ∷ r.used ∷ [])) l
log_words (Err r) l = l

-- 0 where the step back was accepted; else the number of the refusal
unfoldable pub back_number : BackReply → ℕ
back_number (Ok used) = 0
back_number (Err r) = packed_refusal r

-- the used length after an accepted one, where the host has room for a word
unfoldable pub back_words : BackReply → List ℕ → List ℕ
back_words (Ok used) l = pick (leb 1 (length l)) (puts l 0 0 (used ∷ [])) l
back_words (Err r) l = l
