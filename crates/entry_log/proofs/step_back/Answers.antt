use mathlib.Core.Path.{sym, ap, ◌∙◌}
use lib.ListN.{length}
use Rattle.check_file.specs.Answers.{says}
use Rattle.check_file.proofs.Refusals.{err_is}
use Rattle.entry_log.proofs.Backs.{back_early, no_record, record_within, may_go, not_back, went_back_lem}
use borrow.Author.Rules.{rules}
use Rattle.entry_log.proofs.step_back.Goals.{then-bytes-eq0-via-then-bytes-eq0, then-bytes-eq0-via-else-bytes-eq0+then-not-go_back}
use Rattle.entry_log.proofs.step_back.Goals as goal

pub returns-in_err-check_memory : goal.returns-in_err-check_memory
unfolding says
returns-in_err-check_memory c =
    let q = back_early _ _ _ _ _ (sym c.check_memory.ensures.answer ∙ ap says c.in_err-check_memory.was) in
    rw (err_is c.from_residual.result _ c.from_residual.ensures.1) (record { answer = q.0; small = rw c.in_err-check_memory.was at c.check_memory.ensures.small; memory = q.1 })

pub go_back-requires : goal.go_back-requires
unfolding says
go_back-requires c = may_go _ _ _ _ (sym c.check_memory.ensures.answer ∙ ap says c.in_ok-check_memory.was) _ c.last_bytes-bytes.ensures c.if-bytes-eq0.false

pub shape_of-m-then-bytes-eq0 : goal.shape_of-m-then-bytes-eq0
shape_of-m-then-bytes-eq0 c =
    elim c.then-bytes-eq0.branch
    [ then-bytes-eq0-via-then-bytes-eq0 w ↦ ap length w.m-is | then-bytes-eq0-via-else-bytes-eq0+then-not-go_back w ↦ ap length w.m-is ∙ w.go_back.auto.m ]

pub returns-then-bytes-eq0 : goal.returns-then-bytes-eq0
unfolding says
returns-then-bytes-eq0 c = let e = sym c.check_memory.ensures.answer ∙ ap says c.in_ok-check_memory.was in
    elim c.then-bytes-eq0.branch [
      | then-bytes-eq0-via-then-bytes-eq0 w ↦ let q = no_record _ _ _ _ e _ c.last_bytes-bytes.ensures w.if-bytes-eq0.true c.then-bytes-eq0.m w.m-is in rw c.whole.ensures (record { answer = q.0; small = (search rules, search rules); memory = q.1 })
      | then-bytes-eq0-via-else-bytes-eq0+then-not-go_back w ↦ let q = not_back _ _ _ _ e _ c.last_bytes-bytes.ensures w.if-bytes-eq0.false _ _ w.go_back.ensures.answer w.go_back.ensures.memory (w.if-not-go_back.true) c.then-bytes-eq0.m w.m-is in rw c.whole.ensures (record { answer = q.0; small = (search rules, search rules); memory = q.1 })
    ]

pub overflow_sub-result : goal.overflow_sub-result
unfolding says
overflow_sub-result c = record_within _ _ _ _ (sym c.check_memory.ensures.answer ∙ ap says c.in_ok-check_memory.was) _ c.last_bytes-bytes.ensures c.if-bytes-eq0.false

pub returns : goal.returns
unfolding says
returns c = let q = went_back_lem _ _ _ _ (sym c.check_memory.ensures.answer ∙ ap says c.in_ok-check_memory.was) _ c.last_bytes-bytes.ensures c.if-bytes-eq0.false _ _ c.go_back.ensures.answer c.go_back.ensures.memory (c.if-not-go_back.false) in record { answer = q.0; small = tt; memory = q.1 }
