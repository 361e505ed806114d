use mathlib.Core.Path.{ap}
use native.Mathlib.Omega.{arith}
use lib.ListN.{length}
use borrow.Author.Rules.{rules}
use Rattle.spec_log.proofs.Changes.{none_more}
use Rattle.log_records.proofs.Counts.{count_anywhere, count_other, count_same}
use Rattle.log_records.proofs.differing.Goals.{then-a-i, else-a-i}
use Rattle.log_records.proofs.differing.Goals as goal

pub loop-i-init : goal.loop-i-init
loop-i-init c = (search rules, search rules)

pub loop-i-preserved : goal.loop-i-preserved
loop-i-preserved c = let l = c.loop-i in
    elim c.if-a-i.branch [
      | then-a-i w ↦ (omega (arith, w.k-is, l.invariant.0), count_other c.args.a.now c.args.b.now l.k c.if-a-i.k l.i _ c.loop-i-test.true c.requires.0 w.if-a-i.true w.k-is l.invariant.1)
      | else-a-i w ↦ (omega (arith, w.k-is, l.invariant.0), count_same c.args.a.now c.args.b.now l.k c.if-a-i.k l.i _ c.loop-i-test.true c.requires.0 w.if-a-i.false w.k-is l.invariant.1)
    ]

pub returns : goal.returns
returns c = let l = c.loop-i in let z = ap length (none_more c.args.a.now c.args.b.now l.i l.i c.loop-i-test.false) in ((λ i. omega (arith, z, l.invariant.1, count_anywhere c.args.a.now c.args.b.now 0 i)), omega (arith, c.requires.1, l.invariant.0))
