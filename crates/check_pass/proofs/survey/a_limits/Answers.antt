use Rattle.check_pass.specs.Limits.{a_limits}
use Rattle.check_pass.proofs.survey.a_limits.Goals as goal

pub returns : goal.returns
unfolding a_limits
returns c = rw (c.a_limit.ensures, c.a_limit-2.ensures, c.a_limit-3.ensures, c.a_limit-4.ensures, c.a_limit-5.ensures, c.a_limit-6.ensures, c.a_limit-7.ensures, c.a_limit-8.ensures, c.a_limit-9.ensures, c.a_limit-10.ensures, c.a_limit-11.ensures, c.a_limit-12.ensures, c.a_limit-13.ensures, c.a_limit-14.ensures, c.a_limit-15.ensures, c.a_limit-16.ensures)
