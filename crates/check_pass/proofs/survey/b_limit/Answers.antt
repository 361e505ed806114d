use mathlib.Core.Logic.{inl, inr, ⊎_elim}
use Rattle.check_pass.specs.Limits.{b_limits}
use Rattle.check_pass.proofs.Limits.{b_rest, b_past}
use Rattle.check_pass.proofs.survey.b_limit.Goals as goal

pub returns-in-0 : goal.returns-in-0
unfolding b_limits
returns-in-0 c = rw c.in-0.is

pub returns-in-1 : goal.returns-in-1
unfolding b_limits
returns-in-1 c = rw c.in-1.is

pub returns-in-2 : goal.returns-in-2
unfolding b_limits
returns-in-2 c = ⊎_elim (λ e. rw e) (λ e. rw e) c.in-2.is

pub returns-in-5 : goal.returns-in-5
unfolding b_limits
returns-in-5 c = ⊎_elim (λ e. rw e) (λ e. rw e) c.in-5.is

pub returns-in-0-to-15 : goal.returns-in-0-to-15
returns-in-0-to-15 c = b_rest _ _ c.in-0-to-15.if-kind-lt16-own.true c.in-0-to-15.in_default-own.rest.0.0.0.1 c.in-0-to-15.in_default-own.rest.0.0.1 (λ e. c.in-0-to-15.in_default-own.rest.0.1 (inl e)) (λ e. c.in-0-to-15.in_default-own.rest.0.1 (inr e)) (λ e. c.in-0-to-15.in_default-own.rest.1 (inl e)) (λ e. c.in-0-to-15.in_default-own.rest.1 (inr e))

pub returns-in_default : goal.returns-in_default
returns-in_default c = b_past _ _ c.in_default.if-kind-lt16-own.false
