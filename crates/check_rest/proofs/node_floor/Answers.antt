use mathlib.Core.Path.{sym, ◌∙◌}
use native.Mathlib.Omega.{arith}
use lib.Dec.{lit≤}
use borrow.Author.Tests.{not-false}
use Rattle.check_rest.proofs.Sounds.{sound, sound_to_eight}
use Rattle.check_rest.proofs.node_floor.Goals as goal

pub returns-then-not-size_ok : goal.returns-then-not-size_ok
returns-then-not-size_ok c = (sound_to_eight _ _ _ _ _, lit≤ tt, lit≤ tt)

pub returns-then-body-lowest_wrong : goal.returns-then-body-lowest_wrong
returns-then-body-lowest_wrong c = (sound _ _ _ _ _ 9 (λ z. sym c.size_ok.ensures ∙ not-false _ c.if-not-size_ok.false-raw) (λ z. absurd (omega arith)) (λ z. absurd (omega arith)), lit≤ tt, lit≤ tt)

pub returns-then-is_outside : goal.returns-then-is_outside
returns-then-is_outside c = (sound _ _ _ _ _ 11 (λ z. sym c.size_ok.ensures ∙ not-false _ c.if-not-size_ok.false-raw) (λ z. rw (c.is_expression.ensures, c.kind_at.ensures, c.lowest_wrong.ensures) at c.if-body-lowest_wrong.false) (λ z. absurd (omega arith)), lit≤ tt, lit≤ tt)

pub returns : goal.returns
returns c = (sound _ _ _ _ _ 12 (λ z. sym c.size_ok.ensures ∙ not-false _ c.if-not-size_ok.false-raw) (λ z. rw (c.is_expression.ensures, c.kind_at.ensures, c.lowest_wrong.ensures) at c.if-body-lowest_wrong.false) (λ z. sym c.is_outside.ensures ∙ c.if-is_outside.false), lit≤ tt, lit≤ tt)
