use mathlib.Core.Path.{sym, ◌∙◌}
use Prim.Native.Nat.{◌+◌, ◌*◌}
use lib.ListN.{length}
use borrow.Author.Rules.{rules}
use Rattle.spec_log.specs.Records.{words_at}
use Rattle.log_records.proofs.LastRecords.{from_start, word_put, words_done}
use Rattle.log_records.proofs.last.restore_words.Goals as goal

pub loop-i-init : goal.loop-i-init
loop-i-init c = (search rules, from_start (λ k n. words_at c.args.log.now k n) c.args.at (length c.args.m.now))

pub loop-i-preserved : goal.loop-i-preserved
loop-i-preserved c = let a = c.args in
    let l = c.loop-i in
    word_put a.log.now l.m _ a.at (length a.m.now) l.i c.u32_at.result c.loop-i-test.true l.invariant.0 c.u32_at.ensures l.invariant.1

pub returns : goal.returns
returns c = let a = c.args in
    let l = c.loop-i in
    sym (words_done a.log.now l.m (a.at + 4 * l.i) (length a.m.now) l.i c.loop-i-test.false l.invariant.0) ∙ l.invariant.1
