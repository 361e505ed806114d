use Rattle.check_file.proofs.Rounds.{none_found, answers_all, greater_passed}
use Rattle.check_file.specs.Answers.{says}
use lib.Dec.{lit≤}
use native.Mathlib.Omega.{arith}
use mathlib.Core.Path.{sym}
use Rattle.check_file.proofs.check_parts.Goals as goal

pub returns-then-least-gt14 : goal.returns-then-least-gt14
unfolding says
returns-then-least-gt14 c = record { exact = sym (none_found _ _ c.if-least-gt14.true c.file_floor-least.ensures.0); small = tt }

pub ask-requires : goal.ask-requires
ask-requires c = record { laid = (c.requires.0, c.requires.1, c.file_floor-least.ensures.1, lit≤ tt); known = (c.file_floor-least.ensures.0, λ z. absurd (omega arith)) }

pub check_flows-requires : goal.check_flows-requires
check_flows-requires c = (c.requires.0, c.requires.1, c.greater.ensures.1, greater_passed _ c.file_floor-least.ensures.0 (rw c.in_ok-ask.was at c.ask.ensures.exact) c.greater.ensures.2 c.greater.ensures.3)

pub returns : goal.returns
returns c = record { exact = answers_all _ _ c.check_flows.ensures.0; small = c.check_flows.ensures.1 }
