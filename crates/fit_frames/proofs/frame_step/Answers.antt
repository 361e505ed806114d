use mathlib.Core.Path.{sym, ◌∙◌}
use Rattle.spec_image.specs.Decode.{frames}
use Rattle.fit_frames.proofs.Files.{record_of_part}
use Rattle.fit_frames.proofs.Forms.{frame_in_lem, frame_else}
use Rattle.fit_frames.proofs.frame_step.Goals as goal

pub returns-in-1 : goal.returns-in-1
unfolding frames
returns-in-1 c = let a = c.args.frame.now in rw (frame_in_lem a.memory.now a.place 1 (sym c.word-kind.ensures ∙ c.in-1.is)) c.operator_step.ensures

pub returns-in-2 : goal.returns-in-2
unfolding frames
returns-in-2 c = let a = c.args.frame.now in rw (frame_in_lem a.memory.now a.place 2 (sym c.word-kind.ensures ∙ c.in-2.is)) c.call_step.ensures

pub returns-in-3 : goal.returns-in-3
unfolding frames
returns-in-3 c = let a = c.args.frame.now in rw (frame_in_lem a.memory.now a.place 3 (sym c.word-kind.ensures ∙ c.in-3.is), ← c.word-x.ensures) c.and_step.ensures

pub returns-in-4 : goal.returns-in-4
unfolding frames
returns-in-4 c = let a = c.args.frame.now in rw (frame_in_lem a.memory.now a.place 4 (sym c.word-kind.ensures ∙ c.in-4.is), ← c.word-x.ensures) c.wait_step.ensures

pub returns-in-5 : goal.returns-in-5
unfolding frames
returns-in-5 c = let a = c.args.frame.now in rw (frame_in_lem a.memory.now a.place 5 (sym c.word-kind.ensures ∙ c.in-5.is), ← c.word-x.ensures) c.store_step.ensures

pub returns-in-6 : goal.returns-in-6
unfolding frames
returns-in-6 c = let a = c.args.frame.now in rw (frame_in_lem a.memory.now a.place 6 (sym c.word-kind.ensures ∙ c.in-6.is), ← c.word-x.ensures, ← c.word.ensures) c.branch_step.ensures

pub leave_step-requires : goal.leave_step-requires
leave_step-requires c = record_of_part c.args.known.now.part.known

pub returns-in-7 : goal.returns-in-7
unfolding frames
returns-in-7 c = let a = c.args.frame.now in rw (frame_in_lem a.memory.now a.place 7 (sym c.word-kind.ensures ∙ c.in-7.is)) c.leave_step.ensures

pub returns-in-8 : goal.returns-in-8
unfolding frames
returns-in-8 c = let a = c.args.frame.now in rw (frame_in_lem a.memory.now a.place 8 (sym c.word-kind.ensures ∙ c.in-8.is)) (c.assert_step.ensures _ _)

pub returns-in_default : goal.returns-in_default
returns-in_default c = let a = c.args.frame.now in let r = c.in_default.in_default-own.rest in rw (frame_else a.memory.now a.place c.word-kind.result (sym c.word-kind.ensures) r.0.0.0.0.0.0.0.1 r.0.0.0.0.0.0.1 r.0.0.0.0.0.1 r.0.0.0.0.1 r.0.0.0.1 r.0.0.1 r.0.1 r.1) (c.discard_step.ensures _ _)
