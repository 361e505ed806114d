use mathlib.Core.Path.{◌∙◌}
use mathlib.Core.Logic.{inl, inr}
use Rattle.entry_log.proofs.Steps.{first_words, after_state, stood, crowded, room, taken}
use Rattle.entry_log.proofs.log_step.Goals.{then-log-used-via-then-log-used, then-log-used-via-else-log-used+then-log-used-2}
use Rattle.entry_log.proofs.log_step.Goals as goal

pub returns-then-ran-eq0 : goal.returns-then-ran-eq0
returns-then-ran-eq0 c s R e f = stood c.args.file.now (λ i. (c.shared_slice_known-1.given i).fits) c.requires.0.passed s R f (c.run-ran.ensures s R e f) _ _ c.if-ran-eq0.true

pub extent_of-after-requires : goal.extent_of-after-requires
extent_of-after-requires c = after_state c.args.file.now (λ i. (c.shared_slice_known-1.given i).fits) c.requires.0.passed c.requires.0.state c.requires.0.rest c.requires.0.fit (c.run-ran.ensures c.requires.0.state c.requires.0.rest c.requires.0.held c.requires.0.fit)

pub count_changes-k-requires : goal.count_changes-k-requires
count_changes-k-requires c = c.joined-both.ensures _ _ c.requires.3 c.extent_of-after.ensures

pub returns-then-log-used : goal.returns-then-log-used
returns-then-log-used c s R e f = crowded c.args.file.now (λ i. (c.shared_slice_known-1.given i).fits) c.requires.0.passed s R f (c.run-ran.ensures s R e f) c.args.log.now c.args.used c.if-ran-eq0.false (c.requires.2 ∙ first_words s R c.args.file.now f e) (c.record_bytes-bytes.ensures _ _ c.requires.3.long c.count_changes-k.ensures.0) (elim c.then-log-used.branch [ then-log-used-via-then-log-used w ↦ inl w.if-log-used.true | then-log-used-via-else-log-used+then-log-used-2 w ↦ inr w.if-log-used-2.true ]) c.copy.ensures

pub put_record-requires : goal.put_record-requires
put_record-requires c = (c.joined-both.ensures _ _ c.requires.3 c.extent_of-after.ensures, c.count_changes-k.ensures.0, room c.args.file.now (λ i. (c.shared_slice_known-1.given i).fits) c.requires.0.passed c.requires.0.state c.requires.0.rest c.requires.0.fit (c.run-ran.ensures c.requires.0.state c.requires.0.rest c.requires.0.held c.requires.0.fit) c.args.log.now c.args.used c.if-ran-eq0.false (c.requires.2 ∙ first_words c.requires.0.state c.requires.0.rest c.args.file.now c.requires.0.fit c.requires.0.held) (c.record_bytes-bytes.ensures _ _ c.requires.3.long c.count_changes-k.ensures.0) c.if-log-used.false c.if-log-used-2.false)

pub returns : goal.returns
returns c s R e f = taken c.args.file.now (λ i. (c.shared_slice_known-1.given i).fits) c.requires.0.passed s R f (c.run-ran.ensures s R e f) c.args.log.now c.args.used c.if-ran-eq0.false (c.requires.2 ∙ first_words s R c.args.file.now f e) (c.record_bytes-bytes.ensures _ _ c.requires.3.long c.count_changes-k.ensures.0) c.if-log-used.false c.if-log-used-2.false c.extent_of-after.ensures c.put_record.ensures.words c.put_record.ensures.log
