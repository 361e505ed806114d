use lib.ListN.{length-set}
use mathlib.Core.Path.{refl}
use native.Mathlib.Omega.{arith}
use borrow.Author.Rules.{rules}
use Rattle.records.proofs.PartWalks.{start_first, start_on}
use Rattle.records.proofs.StartTables.{starts_more}
use Rattle.records.proofs.starts.starts_of.Goals as goal

pub function_count-functions-requires : goal.function_count-functions-requires
function_count-functions-requires c = omega (arith, c.requires.heads)

pub overflow_add-start : goal.overflow_add-start
overflow_add-start c = omega (arith, c.function_count-functions.ensures.1)

pub overflow_mul-start : goal.overflow_mul-start
overflow_mul-start c = omega (arith, c.function_count-functions.ensures.1)

pub loop-f-init : goal.loop-f-init
loop-f-init c = (search rules, rw (start_first c.args.file.now, c.function_count-functions.ensures.0), refl, λ g h. absurd (omega arith))

pub offset_bounds-starts-f : goal.offset_bounds-starts-f
offset_bounds-starts-f c = omega (arith, c.requires.few, c.function_count-functions.ensures.0, c.loop-f-test.true)

pub bounds-starts-f : goal.bounds-starts-f
bounds-starts-f c = omega (arith, c.requires.few, c.function_count-functions.ensures.0, c.loop-f-test.true)

pub count_of-requires : goal.count_of-requires
count_of-requires c = omega (arith, c.requires.heads, c.function_count-functions.ensures.0, c.loop-f-test.true)

pub overflow_mul-start-in-loop-f : goal.overflow_mul-start-in-loop-f
overflow_mul-start-in-loop-f c = omega (arith, c.count_of.ensures.1)

pub overflow_add-start-in-loop-f : goal.overflow_add-start-in-loop-f
overflow_add-start-in-loop-f c = let l = c.loop-f in
    let k = rw c.function_count-functions.ensures.0 at c.loop-f-test.true in
    omega (arith, l.invariant.1, c.count_of.ensures.0, c.requires.fits l.f k)

pub loop-f-preserved : goal.loop-f-preserved
loop-f-preserved c = let l = c.loop-f in
    let a = c.args in (
      search rules,
      omega (arith, l.invariant.1, c.count_of.ensures.0, start_on a.file.now l.f),
      simp length-set l.invariant.2,
      starts_more a.file.now l.starts l.f l.start l.invariant.1 (omega (arith, l.invariant.2, c.requires.few, c.function_count-functions.ensures.0, c.loop-f-test.true)) l.invariant.3,
    )

pub returns : goal.returns
returns c = (c.requires, λ g h. c.loop-f.invariant.3 g (omega (arith, h, c.loop-f-test.false, c.function_count-functions.ensures.0)))
