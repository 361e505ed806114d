use Rattle.check_pass.specs.Limits.{b_limits}
use Rattle.check_pass.proofs.survey.b_limits.Goals as goal

pub returns : goal.returns
unfolding b_limits
returns c = rw (c.b_limit.ensures, c.b_limit-2.ensures, c.b_limit-3.ensures, c.b_limit-4.ensures, c.b_limit-5.ensures, c.b_limit-6.ensures, c.b_limit-7.ensures, c.b_limit-8.ensures, c.b_limit-9.ensures, c.b_limit-10.ensures, c.b_limit-11.ensures, c.b_limit-12.ensures, c.b_limit-13.ensures, c.b_limit-14.ensures, c.b_limit-15.ensures, c.b_limit-16.ensures, c.wide-v.ensures.0, c.vars_of.ensures)
