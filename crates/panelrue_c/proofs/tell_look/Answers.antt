use borrow.Author.Tests.{le-leb, lt-leb}
use Rattle.panelrue_c.proofs.tell_look.Goals as goal

pub returns-then-answer-lt2 : goal.returns-then-answer-lt2
returns-then-answer-lt2 c = rw (lt-leb 2 _ c.if-answer-lt2.true)

pub returns : goal.returns
returns c = rw (le-leb 2 _ c.if-answer-lt2.false)
