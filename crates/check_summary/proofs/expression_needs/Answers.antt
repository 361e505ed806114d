use mathlib.Core.Path.{◌≡◌, ap, ◌∙◌}
use Rattle.check_summary.proofs.Filling.{read_asks, some_size, fits_size, needs_step}
use Rattle.check_summary.proofs.Ranges.{range_needs}
use native.Mathlib.Omega.{arith}
use Rattle.records.specs.Fields.{size_at}
use Prim.Native.Nat.{ℕ, ◌+◌, ◌-◌}
use Rattle.check_summary.proofs.expression_needs.Goals as goal

pub own_read-set-requires : goal.own_read-set-requires
own_read-set-requires c = read_asks c.requires.part.0 c.requires.part.1

pub loop-low-init : goal.loop-low-init
loop-low-init c = (omega (arith, c.minus-end.ensures, c.size_at.ensures, some_size c.requires.part.0 c.requires.part.1), omega arith, c.own_read-set.ensures)

pub loop-low-smaller : goal.loop-low-smaller
loop-low-smaller c = let y = some_size c.requires.part.0 {i = c.loop-low.low - 1} (omega (arith, c.loop-low.invariant.1, c.requires.part.1)) in
    omega (arith, c.loop-low-test.true, c.minus-low.ensures, c.size_at-in-loop-low.ensures, y)

pub loop-low-preserved : goal.loop-low-preserved
loop-low-preserved c = let e = c.minus-end.ensures ∙ ap (λ (z : ℕ). c.args.i + 1 - z) c.size_at.ensures.0 in
    let v = c.minus-low.ensures ∙ ap (λ (z : ℕ). c.loop-low.low - z) c.size_at-in-loop-low.ensures.0 in
    rw e (needs_step c.requires.part.0 c.requires.part.1 c.requires.part.2 c.requires.table.0 (rw e at c.loop-low-test.true) c.loop-low.invariant.1 c.loop-low.invariant.2 c.needs_at.ensures c.union-set.ensures v)

pub returns : goal.returns
returns c = let e = c.minus-end.ensures ∙ ap (λ (z : ℕ). c.args.i + 1 - z) c.size_at.ensures.0 in
    let q : c.loop-low.low ≡ c.args.i + 1 - size_at c.args.part.now c.args.i = omega (arith, c.loop-low-test.false, c.loop-low.invariant.0, e) in
    range_needs _ _ _ (fits_size c.requires.part.0 c.requires.part.1) (rw q at c.loop-low.invariant.2)
