use mathlib.Core.Path.{refl}
use native.Mathlib.Omega.{arith}
use Rattle.desk_places.proofs.PartExtents.{Lies, no_function, no_room, past_functions, lies}
use Rattle.desk_places.proofs.part_extent.Goals as goal

pub returns-then-records-eq0 : goal.returns-then-records-eq0
returns-then-records-eq0 c = let w : Lies c.args.file.now c.args.function 0 0 = no_room _ _ 0 (omega arith) (past_functions _ _ 0 (omega arith)) in record { exact = w.0; inside = w.1 }

pub returns-then-functions-function : goal.returns-then-functions-function
returns-then-functions-function c = record { exact = (no_function _ _ (rw c.function_count-functions.ensures.0 at c.if-functions-function.true)).0; inside = (no_function _ _ (rw c.function_count-functions.ensures.0 at c.if-functions-function.true)).1 }

pub returns-then-records-functions : goal.returns-then-records-functions
returns-then-records-functions c = let w : Lies c.args.file.now c.args.function 0 0 = no_room _ _ _ refl (past_functions _ _ _ (rw c.function_count-functions.ensures.0 at c.if-records-functions.true)) in record { exact = w.0; inside = w.1 }

pub returns-then-records-start : goal.returns-then-records-start
returns-then-records-start c = record { exact = (no_room _ _ _ refl (rw (c.start_of-start.ensures.0, c.count_of-count.ensures.0) at c.if-records-start.true)).0; inside = (no_room _ _ _ refl (rw (c.start_of-start.ensures.0, c.count_of-count.ensures.0) at c.if-records-start.true)).1 }

pub returns : goal.returns
returns c = record {
  exact = (lies _ _ _ _ c.start_of-start.ensures.0 c.count_of-count.ensures.0
      (rw c.function_count-functions.ensures.0 at c.if-functions-function.false) c.if-records-start.false).0;
  inside = (lies _ _ _ _ c.start_of-start.ensures.0 c.count_of-count.ensures.0
      (rw c.function_count-functions.ensures.0 at c.if-functions-function.false) c.if-records-start.false).1;
}
