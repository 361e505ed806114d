use Rattle.arith.specs.Operators.{and_of, or_of, xor_of, lt_of, le_of, gt_of, ge_of, eq_of, ne_of, results, applied}
use Rattle.arith.proofs.Numbers.{no_operator}
use native.Mathlib.Omega.{arith}
use Rattle.arith.proofs.apply.Goals as goal

pub returns-in-0 : goal.returns-in-0
unfolding applied results
returns-in-0 c = rw (c.in-0.is, c.add.ensures)

pub returns-in-1 : goal.returns-in-1
unfolding applied results
returns-in-1 c = rw (c.in-1.is, c.sub.ensures)

pub returns-in-2 : goal.returns-in-2
unfolding applied results
returns-in-2 c = rw (c.in-2.is, c.mul.ensures)

pub returns-in-3 : goal.returns-in-3
unfolding applied results
returns-in-3 c = rw (c.in-3.is, c.quot.ensures)

pub returns-in-4 : goal.returns-in-4
unfolding applied results
returns-in-4 c = rw (c.in-4.is, c.rem.ensures)

pub returns-in-5 : goal.returns-in-5
unfolding applied results
returns-in-5 c = rw (c.in-5.is, c.shl.ensures, c.edition_of.ensures)

pub returns-in-6 : goal.returns-in-6
unfolding applied results
returns-in-6 c = rw (c.in-6.is, c.shr.ensures, c.edition_of-in-6.ensures)

pub returns-in-7 : goal.returns-in-7
unfolding applied results and_of
returns-in-7 c = rw c.in-7.is

pub returns-in-8 : goal.returns-in-8
unfolding applied results or_of
returns-in-8 c = rw c.in-8.is

pub returns-in-9 : goal.returns-in-9
unfolding applied results xor_of
returns-in-9 c = rw c.in-9.is

pub returns-in-10 : goal.returns-in-10
unfolding applied results
returns-in-10 c = rw (c.in-10.is, c.lt.ensures)

pub returns-in-11 : goal.returns-in-11
unfolding applied results
returns-in-11 c = rw (c.in-11.is, c.le.ensures)

pub returns-in-12 : goal.returns-in-12
unfolding applied results lt_of gt_of
returns-in-12 c = rw (c.in-12.is, c.lt-in-12.ensures)

pub returns-in-13 : goal.returns-in-13
unfolding applied results le_of ge_of
returns-in-13 c = rw (c.in-13.is, c.le-in-13.ensures)

pub returns-in-14 : goal.returns-in-14
unfolding applied results eq_of
returns-in-14 c = rw c.in-14.is

pub returns-in-15 : goal.returns-in-15
unfolding applied results ne_of
returns-in-15 c = rw c.in-15.is

pub returns-in_default : goal.returns-in_default
returns-in_default c = no_operator _ _ _ _ (omega arith)
