use Rattle.check_file.proofs.Passing.{cleared_none, cleared_next, cleared_all, part_room, part_within, part_asks}
use Rattle.records.proofs.PartWalks.{start_first, start_next}
use mathlib.Core.Path.{refl, ◌∙◌}
use Prim.Native.Nat.{◌-◌}
use Rattle.check_file.proofs.Rounds.{none_passed}
use borrow.Author.Rules.{rules}
use native.Mathlib.Omega.{arith}
use Rattle.check_file.proofs.sizes.parts_floor.Goals as goal

pub function_count-functions-requires : goal.function_count-functions-requires
function_count-functions-requires c = omega (arith, c.requires.laid.heads)

pub overflow_add-start : goal.overflow_add-start
overflow_add-start c = omega (arith, c.function_count-functions.ensures.1)

pub loop-f-init : goal.loop-f-init
loop-f-init c = (search rules, rw (start_first, c.function_count-functions.ensures.0), (refl, refl, refl), cleared_none _ 15, search rules, search rules)

pub count_of-n-requires : goal.count_of-n-requires
count_of-n-requires c = omega (arith, c.requires.laid.heads, c.function_count-functions.ensures.0, c.loop-f-test.true)

pub overflow_mul-a : goal.overflow_mul-a
overflow_mul-a c = omega (arith, part_room c.args.file.now c.requires.laid c.function_count-functions.ensures.0 c.loop-f-test.true c.loop-f.invariant.1 c.count_of-n.ensures.0)

pub overflow_add-e : goal.overflow_add-e
overflow_add-e c = omega (arith, part_room c.args.file.now c.requires.laid c.function_count-functions.ensures.0 c.loop-f-test.true c.loop-f.invariant.1 c.count_of-n.ensures.0)

pub overflow_mul-e : goal.overflow_mul-e
overflow_mul-e c = omega (arith, part_room c.args.file.now c.requires.laid c.function_count-functions.ensures.0 c.loop-f-test.true c.loop-f.invariant.1 c.count_of-n.ensures.0)

pub slice_bounds-part_floor-end : goal.slice_bounds-part_floor-end
slice_bounds-part_floor-end c = part_room c.args.file.now c.requires.laid c.function_count-functions.ensures.0 c.loop-f-test.true c.loop-f.invariant.1 c.count_of-n.ensures.0

pub part_floor-own-requires : goal.part_floor-own-requires
part_floor-own-requires c = record { laid = (part_asks c.args.file.now c.requires.laid c.function_count-functions.ensures.0 c.loop-f-test.true c.loop-f.invariant.1 c.count_of-n.ensures.0).0; inside = (part_asks c.args.file.now c.requires.laid c.function_count-functions.ensures.0 c.loop-f-test.true c.loop-f.invariant.1 c.count_of-n.ensures.0).1; room = (omega (arith, part_within c.args.file.now c.requires.laid c.function_count-functions.ensures.0 c.loop-f-test.true c.loop-f.invariant.1 c.count_of-n.ensures.0 _ c.requires.room.0, c.loop-f.invariant.2.0), omega (arith, part_within c.args.file.now c.requires.laid c.function_count-functions.ensures.0 c.loop-f-test.true c.loop-f.invariant.1 c.count_of-n.ensures.0 _ c.requires.room.1, c.loop-f.invariant.2.1), omega (arith, part_within c.args.file.now c.requires.laid c.function_count-functions.ensures.0 c.loop-f-test.true c.loop-f.invariant.1 c.count_of-n.ensures.0 _ c.requires.room.2, c.loop-f.invariant.2.2)) }

pub shape_of-codes-then-own-eq7 : goal.shape_of-codes-then-own-eq7
shape_of-codes-then-own-eq7 c = c.part_floor-own.ensures.room.0 ∙ c.loop-f.invariant.2.0

pub shape_of-reads-then-own-eq7 : goal.shape_of-reads-then-own-eq7
shape_of-reads-then-own-eq7 c = c.part_floor-own.ensures.room.1 ∙ c.loop-f.invariant.2.1

pub shape_of-sets-then-own-eq7 : goal.shape_of-sets-then-own-eq7
shape_of-sets-then-own-eq7 c = c.part_floor-own.ensures.room.2 ∙ c.loop-f.invariant.2.2

pub returns-then-own-eq7 : goal.returns-then-own-eq7
returns-then-own-eq7 c = (none_passed _, search rules, search rules)

pub overflow_add-start-in-loop-f : goal.overflow_add-start-in-loop-f
overflow_add-start-in-loop-f c = omega (arith, part_room c.args.file.now c.requires.laid c.function_count-functions.ensures.0 c.loop-f-test.true c.loop-f.invariant.1 c.count_of-n.ensures.0)

pub loop-f-preserved : goal.loop-f-preserved
loop-f-preserved c = (search rules, start_next c.args.file.now c.loop-f.f c.loop-f.invariant.1 c.count_of-n.ensures.0, (c.part_floor-own.ensures.room.0 ∙ c.loop-f.invariant.2.0, c.part_floor-own.ensures.room.1 ∙ c.loop-f.invariant.2.1, c.part_floor-own.ensures.room.2 ∙ c.loop-f.invariant.2.2), cleared_next c.args.file.now c.requires.laid c.function_count-functions.ensures.0 c.loop-f-test.true c.loop-f.invariant.1 c.count_of-n.ensures.0 c.lower-least.ensures.0 c.lower-least.ensures.1 c.loop-f.invariant.3 c.part_floor-own.ensures.clear.0, c.lower-least.ensures.2 c.part_floor-own.ensures.clear.1 c.loop-f.invariant.4, omega (arith, c.lower-least.ensures.1, c.loop-f.invariant.5))

pub shape_of-codes : goal.shape_of-codes
shape_of-codes c = c.loop-f.invariant.2.0

pub shape_of-reads : goal.shape_of-reads
shape_of-reads c = c.loop-f.invariant.2.1

pub shape_of-sets : goal.shape_of-sets
shape_of-sets c = c.loop-f.invariant.2.2

pub returns : goal.returns
returns c = (cleared_all _ _ _ _ c.function_count-functions.ensures.0 (omega (arith, c.loop-f-test.false)) c.loop-f.invariant.3, c.loop-f.invariant.4, c.loop-f.invariant.5)
