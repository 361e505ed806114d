-- The code's answers of a logged run and of a step back.
use Rattle.std.specs.Prelude.{ℕ, Result, Ok, Err}
use Rattle.spec_log.specs.Logged as spec
use Rattle.spec_answers.specs.Answers as answers
use Rattle.spec_answers.specs.Answers.{granted, denied}
use Rattle.check_file.specs.declared.Refusal.{Refusal}
use Rattle.check_file.specs.Answers.{refusal_of, SmallRefusal}
use Rattle.run_loop.specs.Runs.{outcome_of}
use Rattle.entry_log.specs.declared.Stop.{Stop}
use Rattle.entry_log.specs.declared.Stop.TheVariants.{Ended, LogFull}
use Rattle.entry_log.specs.declared.Logged.{Logged}

-- the stops as the code has them
unfoldable pub stop_of : spec.Stop → Stop
stop_of (spec.ends o) = Ended (outcome_of o)
stop_of spec.LogFull = LogFull

-- the code's answer of a logged run: how it stopped, or why it was refused
abbrev pub LogReply : Type 0
LogReply = Result Logged Refusal

-- that of a step back: how much of the log is used then, or why it was refused
abbrev pub BackReply : Type 0
BackReply = Result ℕ Refusal

-- stop, steps and used length of an accepted run, or the refusal
unfoldable pub log_reply_of : answers.Result spec.Logged → LogReply
log_reply_of (granted q) = Ok (record { stop = stop_of q.stop; steps = q.steps; used = q.used })
log_reply_of (denied question place item) = Err (refusal_of question place item)

-- the used length after an accepted step back, or the refusal
unfoldable pub back_reply_of : answers.Result ℕ → BackReply
back_reply_of (granted used) = Ok used
back_reply_of (denied question place item) = Err (refusal_of question place item)

-- answers whose refusal is small
abbrev pub SmallLogReply : LogReply → Type 0
SmallLogReply (Ok r) = Unit {0}
SmallLogReply (Err r) = SmallRefusal r

abbrev pub SmallBackReply : BackReply → Type 0
SmallBackReply (Ok used) = Unit {0}
SmallBackReply (Err r) = SmallRefusal r
