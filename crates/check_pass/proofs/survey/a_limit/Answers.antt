use Rattle.check_pass.specs.Limits.{a_limits}
use Rattle.check_pass.proofs.Limits.{a_rest, a_past}
use Rattle.check_pass.proofs.survey.a_limit.Goals as goal

pub returns-in-3 : goal.returns-in-3
unfolding a_limits
returns-in-3 c = rw c.in-3.is

pub returns-in-5 : goal.returns-in-5
unfolding a_limits
returns-in-5 c = rw c.in-5.is

pub returns-in-9 : goal.returns-in-9
unfolding a_limits
returns-in-9 c = rw c.in-9.is

pub returns-in_default : goal.returns-in_default
returns-in_default c = a_past _ c.in_default.if-kind-lt16-own.false

pub returns-in-0-to-15 : goal.returns-in-0-to-15
unfolding a_limits
returns-in-0-to-15 c = rw c.in-0-to-15.in-0-to-15-own.keys4

pub returns-in-0-to-15-2 : goal.returns-in-0-to-15-2
returns-in-0-to-15-2 c = a_rest _ c.in-0-to-15.if-kind-lt16-own.true c.in-0-to-15.in_default-own.rest.0.0.0.1 c.in-0-to-15.in_default-own.rest.0.0.1 c.in-0-to-15.in_default-own.rest.0.1
