use native.Mathlib.Omega.{arith}
use Rattle.panelrue_c.specs.HostAnswers.{run_words}
use lib.ListN.{length-set}
use borrow.Author.Tests.{le-leb, lt-leb}
use Rattle.panelrue_c.proofs.tell_run.Goals as goal

pub returns-then-answer-lt3 : goal.returns-then-answer-lt3
unfolding run_words
returns-then-answer-lt3 c = rw (lt-leb 3 _ c.if-answer-lt3.true)

pub bounds-answer-1 : goal.bounds-answer-1
bounds-answer-1 c = simp length-set (omega arith)

pub returns : goal.returns
unfolding run_words
returns c = rw (le-leb 3 _ c.if-answer-lt3.false, c.outcome_number-a.ensures, c.outcome_word-b.ensures)
