use Prim.Native.Nat.{ℕ}
use Rattle.check_file.proofs.Walk.{asks, found, placed, shift_placed}
use Rattle.check_file.proofs.Passing.{part_room}
use Rattle.records.proofs.PartWalks.{start_first, start_next, scan_found, scan_on, scan-end}
use lib.ListN.{length}
use borrow.Author.Rules.{rules}
use native.Mathlib.Nat.{sub-zero}
use native.Mathlib.Omega.{arith}
use mathlib.Core.Path.{◌≡◌, refl, sym, ◌∙◌}
use Rattle.check_file.proofs.first_in_parts.Goals as goal

pub function_count-functions-requires : goal.function_count-functions-requires
function_count-functions-requires c = omega (arith, c.requires.laid.0.heads)

pub loop-f-init : goal.loop-f-init
loop-f-init c = (refl, search rules, rw (start_first, c.function_count-functions.ensures.0), rw sub-zero)

pub count_of-n-requires : goal.count_of-n-requires
count_of-n-requires c = omega (arith, c.requires.laid.0.heads, c.function_count-functions.ensures.0)

pub overflow_mul-a : goal.overflow_mul-a
overflow_mul-a c = omega (arith, part_room c.args.file.now c.requires.laid.0 c.function_count-functions.ensures.0 c.loop-f-test.true c.loop-f.invariant.2 c.count_of-n.ensures.0)

pub overflow_add-e : goal.overflow_add-e
overflow_add-e c = omega (arith, part_room c.args.file.now c.requires.laid.0 c.function_count-functions.ensures.0 c.loop-f-test.true c.loop-f.invariant.2 c.count_of-n.ensures.0)

pub overflow_mul-e : goal.overflow_mul-e
overflow_mul-e c = omega (arith, part_room c.args.file.now c.requires.laid.0 c.function_count-functions.ensures.0 c.loop-f-test.true c.loop-f.invariant.2 c.count_of-n.ensures.0)

pub slice_bounds-answer_in-end : goal.slice_bounds-answer_in-end
slice_bounds-answer_in-end c = part_room c.args.file.now c.requires.laid.0 c.function_count-functions.ensures.0 c.loop-f-test.true c.loop-f.invariant.2 c.count_of-n.ensures.0

pub answer_in-found-requires : goal.answer_in-found-requires
answer_in-found-requires c = record { laid = (asks c.args.file.now c.args.q c.requires.laid.0 c.function_count-functions.ensures.0 c.loop-f-test.true c.loop-f.invariant.2 c.count_of-n.ensures.0 {k = length c.loop-f.table} c.requires.laid.2 c.requires.known.0 (λ z. rw c.loop-f.invariant.0 (c.requires.known.1 z))).0; inside = (asks c.args.file.now c.args.q c.requires.laid.0 c.function_count-functions.ensures.0 c.loop-f-test.true c.loop-f.invariant.2 c.count_of-n.ensures.0 {k = length c.loop-f.table} c.requires.laid.2 c.requires.known.0 (λ z. rw c.loop-f.invariant.0 (c.requires.known.1 z))).1.0; known = (asks c.args.file.now c.args.q c.requires.laid.0 c.function_count-functions.ensures.0 c.loop-f-test.true c.loop-f.invariant.2 c.count_of-n.ensures.0 {k = length c.loop-f.table} c.requires.laid.2 c.requires.known.0 (λ z. rw c.loop-f.invariant.0 (c.requires.known.1 z))).1.1 }

pub origin-requires : goal.origin-requires
origin-requires c = omega (arith, c.requires.laid.0.few, c.function_count-functions.ensures.0)

pub shift_by-requires : goal.shift_by-requires
shift_by-requires c = λ i x e. omega (arith, (placed c.args.file.now c.args.q c.requires.laid.0 c.function_count-functions.ensures.0 c.loop-f-test.true c.loop-f.invariant.2 c.count_of-n.ensures.0 _ _ c.requires.laid.1 c.answer_in-found.ensures.small c.origin.ensures i x e).0)

pub shape_of-table-in-Some : goal.shape_of-table-in-Some
shape_of-table-in-Some c = c.answer_in-found.auto.table ∙ c.loop-f.invariant.0

pub returns-in-Some : goal.returns-in-Some
returns-in-Some c = record { exact = sym (c.loop-f.invariant.3 ∙ scan_found _ _ _ _ _ c.loop-f-test.true (found c.args.file.now c.args.q c.requires.laid.0 c.function_count-functions.ensures.0 c.loop-f-test.true c.loop-f.invariant.2 c.count_of-n.ensures.0 _ _ c.answer_in-found.ensures.exact c.origin.ensures ∙ sym c.shift_by.ensures ∙ c.in-Some.is)) ∙ rw c.function_count-functions.ensures.0; small = λ i x e. shift_placed _ i x _ (placed c.args.file.now c.args.q c.requires.laid.0 c.function_count-functions.ensures.0 c.loop-f-test.true c.loop-f.invariant.2 c.count_of-n.ensures.0 _ _ c.requires.laid.1 c.answer_in-found.ensures.small c.origin.ensures) (sym c.shift_by.ensures ∙ c.in-Some.is ∙ e) }

pub overflow_add-start-in-loop-f : goal.overflow_add-start-in-loop-f
overflow_add-start-in-loop-f c = omega (arith, part_room c.args.file.now c.requires.laid.0 c.function_count-functions.ensures.0 c.loop-f-test.true c.loop-f.invariant.2 c.count_of-n.ensures.0)

pub loop-f-preserved : goal.loop-f-preserved
loop-f-preserved c = (c.answer_in-found.auto.table ∙ c.loop-f.invariant.0, search rules, start_next c.args.file.now c.loop-f.f c.loop-f.invariant.2 c.count_of-n.ensures.0, c.loop-f.invariant.3 ∙ scan_on _ _ _ c.loop-f-test.true (found c.args.file.now c.args.q c.requires.laid.0 c.function_count-functions.ensures.0 c.loop-f-test.true c.loop-f.invariant.2 c.count_of-n.ensures.0 _ _ c.answer_in-found.ensures.exact c.origin.ensures ∙ sym c.shift_by.ensures ∙ c.in_default.is))

pub shape_of-table : goal.shape_of-table
shape_of-table c = c.loop-f.invariant.0

pub returns : goal.returns
returns c = record { exact = sym (c.loop-f.invariant.3 ∙ scan-end _ _ _ (omega arith)) ∙ rw c.function_count-functions.ensures.0; small = λ i x e. let z : ◌≡◌ {A = ℕ} 0 1 = cc in absurd (omega arith) }
