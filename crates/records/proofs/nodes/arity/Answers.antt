use Rattle.records.proofs.Arities.{arity_high, arity_low, arity_one}
use Rattle.records.specs.Children.{arity_of, arities}
use borrow.Author.Rules.{rules}
use native.Mathlib.Omega.{arith}
use Rattle.records.proofs.nodes.arity.Goals as goal

pub returns-in-3 : goal.returns-in-3
unfolding arity_of arities
returns-in-3 c = (rw c.in-3.is, search rules)

pub returns-in-4 : goal.returns-in-4
unfolding arity_of arities
returns-in-4 c = (rw c.in-4.is, search rules)

pub returns-in-5 : goal.returns-in-5
unfolding arity_of arities
returns-in-5 c = (rw (c.in-5.is, c.wide.ensures.0), search rules)

pub returns-in-7 : goal.returns-in-7
unfolding arity_of arities
returns-in-7 c = (rw c.in-7.is, search rules)

pub returns-in-8 : goal.returns-in-8
unfolding arity_of arities
returns-in-8 c = (rw c.in-8.is, search rules)

pub returns-in-9 : goal.returns-in-9
unfolding arity_of arities
returns-in-9 c = (rw c.in-9.is, search rules)

pub returns-in-10 : goal.returns-in-10
unfolding arity_of arities
returns-in-10 c = (rw c.in-10.is, search rules)

pub returns-in-11 : goal.returns-in-11
unfolding arity_of arities
returns-in-11 c = (rw c.in-11.is, search rules)

pub returns-in-12-to-14 : goal.returns-in-12-to-14
returns-in-12-to-14 c = (arity_one _ _ (omega arith) (omega arith) (omega arith) (omega arith) (omega arith) (omega arith) (omega arith), search rules)

pub returns-in_default : goal.returns-in_default
returns-in_default c = (arity_low _ _ (omega arith) (omega arith) (omega arith) (omega arith) (omega arith) (omega arith) (omega arith) (omega arith) (omega arith), search rules)

pub returns-in_default-2 : goal.returns-in_default-2
returns-in_default-2 c = (arity_high _ _ (search rules), search rules)
