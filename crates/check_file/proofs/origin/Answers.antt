use borrow.Author.Tests.{ne_eqb}
use Rattle.check_file.proofs.origin.Goals as goal

pub returns-in-10 : goal.returns-in-10
returns-in-10 c = rw c.in-10.is

pub returns-in-14 : goal.returns-in-14
returns-in-14 c = rw c.in-14.is

pub returns-in_default : goal.returns-in_default
returns-in_default c = rw (ne_eqb _ 10 c.in_default.in_default-own.rest.0.1, ne_eqb _ 14 c.in_default.in_default-own.rest.1)
