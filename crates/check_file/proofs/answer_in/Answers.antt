use Rattle.check_file.proofs.FoundPlaces.{placed_lacks}
use Rattle.spec_language.specs.Nodes.{answers}
use native.Mathlib.Omega.{arith}
use Rattle.check_file.proofs.FoundPlaces.{head_inside, placed_first, placed_undeclared, placed_unless, placed_none, past_fourteen}
use borrow.Author.Rules.{rules}
use Rattle.check_file.proofs.answer_in.Goals as goal

pub first_undeclared-requires : goal.first_undeclared-requires
first_undeclared-requires c = record { laid = (head_inside _ _ c.requires.laid.0 c.requires.laid.1, c.requires.laid.0.vars _ c.requires.laid.1, c.requires.laid.0.params _ c.requires.laid.1); inside = search rules; named = (c.requires.known.0 (omega arith)).0.variable }

pub first_outside-requires : goal.first_outside-requires
first_outside-requires c = record { laid = head_inside _ _ c.requires.laid.0 c.requires.laid.1; inside = search rules; known = (c.requires.known.0 (omega arith)).0 }

pub first_mistyped-requires : goal.first_mistyped-requires
first_mistyped-requires c = record { laid = search rules; inside = search rules; known = c.requires.known.0 (omega arith) }

pub first_lacking-requires : goal.first_lacking-requires
first_lacking-requires c = record { laid = (head_inside _ _ c.requires.laid.0 c.requires.laid.1, c.requires.laid.0.params _ c.requires.laid.1); part = ((c.requires.known.1 (omega arith)).0, search rules, (c.requires.known.1 (omega arith)).1) }

pub not_returning-requires : goal.not_returning-requires
not_returning-requires c = ((c.requires.known.1 (omega arith)).0, search rules, (c.requires.known.1 (omega arith)).1)

pub returns-in-7 : goal.returns-in-7
unfolding answers
returns-in-7 c = record { exact = rw c.in-7.is c.first_wrong_node.ensures; small = placed_first _ _ _ c.first_wrong_node.ensures }

pub returns-in-8 : goal.returns-in-8
unfolding answers
returns-in-8 c = record { exact = rw c.in-8.is c.first_wrong_size.ensures; small = placed_first _ _ _ c.first_wrong_size.ensures }

pub returns-in-9 : goal.returns-in-9
unfolding answers
returns-in-9 c = record { exact = rw c.in-9.is c.first_misplaced.ensures; small = placed_first _ _ _ c.first_misplaced.ensures }

pub returns-in-10 : goal.returns-in-10
unfolding answers
returns-in-10 c = record { exact = rw c.in-10.is c.first_undeclared.ensures; small = placed_undeclared _ _ _ _ c.first_undeclared.ensures (c.requires.laid.0.vars _ c.requires.laid.1) (search rules) }

pub returns-in-11 : goal.returns-in-11
unfolding answers
returns-in-11 c = record { exact = rw c.in-11.is c.first_outside.ensures; small = placed_first _ _ _ c.first_outside.ensures }

pub returns-in-12 : goal.returns-in-12
unfolding answers
returns-in-12 c = record { exact = rw c.in-12.is c.first_mistyped.ensures; small = placed_first _ _ _ c.first_mistyped.ensures }

pub returns-in-13 : goal.returns-in-13
unfolding answers
returns-in-13 c = record { exact = rw c.in-13.is c.first_lacking.ensures.exact; small = placed_lacks _ _ (c.requires.known.0 (omega arith)).0 _ _ c.first_lacking.ensures.exact (search rules) }

pub returns-in-14 : goal.returns-in-14
unfolding answers
returns-in-14 c = record { exact = rw c.in-14.is c.not_returning.ensures; small = placed_unless _ _ _ c.not_returning.ensures (search rules) }

pub returns-in_default : goal.returns-in_default
returns-in_default c = record { exact = past_fourteen _ _ _ _ _ (search rules) c.in_default.in_default-own.rest.0.0.0.0.0.0.0.1 c.in_default.in_default-own.rest.0.0.0.0.0.0.1 c.in_default.in_default-own.rest.0.0.0.0.0.1 c.in_default.in_default-own.rest.0.0.0.0.1 c.in_default.in_default-own.rest.0.0.0.1 c.in_default.in_default-own.rest.0.0.1 c.in_default.in_default-own.rest.0.1 c.in_default.in_default-own.rest.1; small = placed_none _ }
