use Rattle.spec_language.specs.Scopes.{uses_variable}
use Rattle.spec_language.specs.Known.{names_variable}
use mathlib.Core.Path.{refl}
use Rattle.check_pass.proofs.Filling.{filled_none, filled_more, filled_next, filled_sound, sound_passed, all-below}
use borrow.Author.Tests.{not-false}
use native.Mathlib.Omega.{arith}
use Rattle.check_pass.proofs.floor.Goals as goal

pub loop-i-init : goal.loop-i-init
loop-i-init c = filled_none _ _ _ _ _ 0 _ _ _

pub declared-seen-requires : goal.declared-seen-requires
unfolding names_variable uses_variable
declared-seen-requires c = (omega (arith, c.requires.inside.0.inside, c.loop-i-test.true), λ z. c.requires.inside.0.named _ c.loop-i-test.true (rw z refl))

pub invariant_of-node : goal.invariant_of-node
invariant_of-node c = record { at = record { part = c.requires.inside.0; below = c.loop-i-test.true; code_room = omega (arith, c.requires.room.0); read_room = omega (arith, c.requires.room.1); set_room = omega (arith, c.requires.room.2); filled = filled_more _ _ _ _ _ _ _ _ _ _ c.declared-seen.ensures.grown c.loop-i.invariant; own = c.declared-seen.ensures.own } }

pub floor_from-requires : goal.floor_from-requires
floor_from-requires c = record { inside = (omega (arith, c.requires.inside.0.laid.heads, c.requires.inside.0.function), c.requires.inside.0.inside, omega (arith, c.loop-i-test.true)); known = (c.requires.inside.0.named, c.requires.inside.0.told); before = filled_sound _ _ _ _ c.loop-i-test.true (omega arith) c.loop-i.invariant }

pub returns-then-e : goal.returns-then-e
returns-then-e c = record { shown = (sound_passed _ _ _ _ c.floor_from.ensures.0 c.floor_from.ensures.2, c.floor_from.ensures.1, omega (arith, c.floor_from.ensures.2)); room = (c.loop-i.auto.codes, c.loop-i.auto.reads, c.loop-i.auto.sets) }

pub loop-i-preserved : goal.loop-i-preserved
loop-i-preserved c = filled_next _ _ _ _ _ _ _ _ _ (filled_more _ _ _ _ _ _ _ _ _ _ c.declared-seen.ensures.grown c.loop-i.invariant) (omega (arith, c.loop-i-test.true, c.loop-i.auto.codes, c.requires.room.0)) (omega (arith, c.loop-i-test.true, c.loop-i.auto.reads, c.requires.room.1)) (omega (arith, c.loop-i-test.true, c.loop-i.auto.sets, c.requires.room.2)) (c.effect_at-e.ensures (omega arith))

pub overflow_sub-last : goal.overflow_sub-last
overflow_sub-last c = omega (arith, c.requires.inside.1)

pub size_at-requires : goal.size_at-requires
size_at-requires c = omega (arith, c.requires.inside.0.inside, c.requires.inside.1)

pub floor_from-requires-then-not-size_at-n : goal.floor_from-requires-then-not-size_at-n
floor_from-requires-then-not-size_at-n c = record { inside = (omega (arith, c.requires.inside.0.laid.heads, c.requires.inside.0.function), c.requires.inside.0.inside, omega (arith, c.requires.inside.1)); known = (c.requires.inside.0.named, c.requires.inside.0.told); before = filled_sound _ _ _ _ (omega (arith, c.requires.inside.1)) (omega (arith, c.requires.inside.1, c.loop-i-test.false)) c.loop-i.invariant }

pub returns-then-not-size_at-n : goal.returns-then-not-size_at-n
returns-then-not-size_at-n c = record { shown = (sound_passed _ _ _ _ c.floor_from-then-not-size_at-n.ensures.0 c.floor_from-then-not-size_at-n.ensures.2, c.floor_from-then-not-size_at-n.ensures.1, omega (arith, c.floor_from-then-not-size_at-n.ensures.2)); room = (c.loop-i.auto.codes, c.loop-i.auto.reads, c.loop-i.auto.sets) }

pub returns : goal.returns
returns c = record { shown = (all-below _ _ _ _ _ _ _ c.requires.inside.1 (omega (arith, c.loop-i-test.false)) c.loop-i.invariant refl (c.loop-i.invariant.at _) c.size_at.ensures.0 c.minus.ensures c.is_empty-held.ensures.0 (not-false _ c.if-not-size_at-n.false-raw) c.least.ensures, omega (arith, c.least.ensures.2), c.least.ensures.3); room = (c.loop-i.auto.codes, c.loop-i.auto.reads, c.loop-i.auto.sets) }
