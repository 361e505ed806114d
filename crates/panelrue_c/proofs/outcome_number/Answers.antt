use Rattle.panelrue_c.specs.HostAnswers.{outcome_number}
use Rattle.panelrue_c.proofs.outcome_number.Goals as goal

pub returns-in-Value : goal.returns-in-Value
unfolding outcome_number
returns-in-Value c = rw c.in-Value.is

pub returns-in-Arith : goal.returns-in-Arith
unfolding outcome_number
returns-in-Arith c = rw c.in-Arith.is

pub returns-in-Abort : goal.returns-in-Abort
unfolding outcome_number
returns-in-Abort c = rw c.in-Abort.is

pub returns-in-Spent : goal.returns-in-Spent
unfolding outcome_number
returns-in-Spent c = rw c.in-Spent.is

pub returns-in-Full : goal.returns-in-Full
unfolding outcome_number
returns-in-Full c = rw c.in-Full.is
