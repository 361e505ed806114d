-- Logged runs in a row, and steps back in a row.
use Rattle.std.specs.Prelude.{◌≡◌, List, ℕ, suc, ◌+◌}
use Rattle.spec_answers.specs.Answers.{granted}
use Rattle.spec_log.specs.Logged.{Logged}
use Rattle.spec_log.specs.Answers.{log_answer, log_memory, back_answer, back_memory}

-- accepted logged runs with the file s, each with the memory, log and used length that the one before it left: so many steps in all, from the
-- first memory, log and used length to the last
pub data LogsOn (s : List ℕ) : ℕ → List ℕ → List ℕ → ℕ → List ℕ → List ℕ → ℕ → Type 0 where
  none : {m log : List ℕ} {used : ℕ} → LogsOn s 0 m log used m log used
  then : {m log m' log' : List ℕ} {used used' n : ℕ} (a : ℕ) (q : Logged) → log_answer s m a log used ≡ granted q
      → LogsOn s n (log_memory s m a log used) q.log q.used m' log' used' → LogsOn s (q.steps + n) m log used m' log' used'

-- accepted steps back with the file s and one log, each with the memory and used length that the one before it left
pub data StepsBack (s log : List ℕ) : ℕ → List ℕ → ℕ → List ℕ → ℕ → Type 0 where
  none : {m : List ℕ} {used : ℕ} → StepsBack s log 0 m used m used
  then : {m m' : List ℕ} {used v used' n : ℕ} → back_answer s m log used ≡ granted v → StepsBack s log n (back_memory s m log used) v m' used'
      → StepsBack s log (suc n) m used m' used'
