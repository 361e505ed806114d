use native.Mathlib.Omega.{arith}
use Rattle.records.specs.Search.{shift}
use Rattle.records.proofs.shift_by.Goals as goal

pub returns-in_err-place : goal.returns-in_err-place
unfolding shift
returns-in_err-place c = rw c.in_err-place.was c.from_residual.ensures

pub overflow_add-result : goal.overflow_add-result
overflow_add-result c = omega (arith, c.requires c.in_ok-place.field-0.place c.in_ok-place.field-0.item c.in_ok-place.was)

pub returns : goal.returns
unfolding shift
returns c = rw c.in_ok-place.was
