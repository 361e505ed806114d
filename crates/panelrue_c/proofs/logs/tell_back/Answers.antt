use borrow.Author.Tests.{le-leb, lt-leb}
use Rattle.panelrue_c.specs.HostLogs.{back_words}
use Rattle.panelrue_c.proofs.logs.tell_back.Goals as goal

pub returns-then-answer-lt1 : goal.returns-then-answer-lt1
unfolding back_words
returns-then-answer-lt1 c = rw (lt-leb 1 _ c.if-answer-lt1.true)

pub returns : goal.returns
unfolding back_words
returns c = rw (le-leb 1 _ c.if-answer-lt1.false)
