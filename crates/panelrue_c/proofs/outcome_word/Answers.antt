use mir.Syntax.{w32}
use mir.ValLaws.{to_z-of_z}
use Rattle.panelrue_c.specs.HostAnswers.{outcome_word}
use Rattle.panelrue_c.proofs.outcome_word.Goals as goal

pub returns-in-Value : goal.returns-in-Value
unfolding outcome_word
returns-in-Value c = rw (c.bits.ensures, to_z-of_z w32 _ (record { sfits = c.in-Value.known_told-1-own.given.0.1 }), c.in-Value.is)

pub returns-in-Arith : goal.returns-in-Arith
unfolding outcome_word
returns-in-Arith c = rw c.in-Arith.is

pub returns-in-Abort : goal.returns-in-Abort
unfolding outcome_word
returns-in-Abort c = rw c.in-Abort.is

pub returns-in-Spent : goal.returns-in-Spent
unfolding outcome_word
returns-in-Spent c = rw c.in-Spent.is

pub returns-in-Full : goal.returns-in-Full
unfolding outcome_word
returns-in-Full c = rw c.in-Full.is
