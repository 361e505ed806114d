-- The code's answer of a run.
use Rattle.spec_machine.specs.Run as run
use Rattle.std.specs.Prelude.{Result, Ok, Err}
use Rattle.spec_answers.specs.Answers as answers
use Rattle.spec_answers.specs.Answers.{granted, denied}
use Rattle.check_file.specs.declared.Refusal.{Refusal}
use Rattle.check_file.specs.Answers.{refusal_of, SmallRefusal}
use Rattle.run_loop.specs.Runs.{outcome_of}
use Rattle.run_loop.specs.declared.Ran.{Ran}

-- the code's answer of a run: how it ended, or why it was refused
abbrev pub Reply : Type 0
Reply = Result Ran Refusal

-- outcome and steps of an accepted run, or the refusal
unfoldable pub reply_of : answers.Result run.Ran → Reply
reply_of (granted q) = Ok (record { outcome = outcome_of q.outcome; steps = q.steps })
reply_of (denied question place item) = Err (refusal_of question place item)

-- an answer whose refusal is small
abbrev pub SmallReply : Reply → Type 0
SmallReply (Ok r) = Unit {0}
SmallReply (Err r) = SmallRefusal r
