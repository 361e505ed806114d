use mathlib.Core.Path.{sym, ◌∙◌}
use Prim.Native.Nat.{◌+◌, ◌*◌}
use borrow.Author.Rules.{rules}
use Rattle.spec_log.specs.Changes.{restored}
use Rattle.spec_log.specs.Records.{changes_at}
use Rattle.log_records.proofs.LastRecords.{from_start, change_put, change_past, changes_done}
use Rattle.log_records.proofs.last.restore_changes.Goals.{then-place-words, else-place-words}
use Rattle.log_records.proofs.last.restore_changes.Goals as goal

pub loop-i-init : goal.loop-i-init
loop-i-init c = (search rules, from_start (λ k n. restored (changes_at c.args.log.now k n) c.args.m.now) c.args.at c.args.n)

pub loop-i-preserved : goal.loop-i-preserved
loop-i-preserved c = let l = c.loop-i in
    elim c.if-place-words.branch [
      | then-place-words w ↦ change_put _ l.m c.if-place-words.m _ _ _ _ _ _ c.loop-i-test.true l.invariant.0 l.invariant.1 c.u16_at-place.ensures.0 w.u32_at.result w.u32_at.ensures w.m-is
      | else-place-words w ↦ change_past _ l.m c.if-place-words.m _ _ _ _ _ _ c.loop-i-test.true l.invariant.0 l.invariant.1 c.u16_at-place.ensures.0 w.if-place-words.false w.m-is
    ]

pub returns : goal.returns
returns c = let a = c.args in
    let l = c.loop-i in
    sym (changes_done a.log.now l.m (a.at + 6 * l.i) a.n l.i c.loop-i-test.false) ∙ l.invariant.1
