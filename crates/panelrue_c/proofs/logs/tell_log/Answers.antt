use native.Mathlib.Omega.{arith}
use lib.ListN.{length-set}
use borrow.Author.Tests.{le-leb, lt-leb}
use Rattle.panelrue_c.specs.HostLogs.{log_words}
use Rattle.panelrue_c.proofs.logs.tell_log.Goals as goal

pub returns-then-answer-lt4 : goal.returns-then-answer-lt4
unfolding log_words
returns-then-answer-lt4 c = rw (lt-leb 4 _ c.if-answer-lt4.true)

pub bounds-answer-1 : goal.bounds-answer-1
bounds-answer-1 c = simp length-set (omega arith)

pub bounds-answer-2 : goal.bounds-answer-2
bounds-answer-2 c = simp length-set (omega arith)

pub returns : goal.returns
unfolding log_words
returns c = rw (le-leb 4 _ c.if-answer-lt4.false, c.stop_number-a.ensures, c.stop_word-b.ensures)
