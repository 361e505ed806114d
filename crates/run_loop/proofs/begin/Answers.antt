use lib.ListN.{length-set}
use mathlib.Core.Path.{refl, ◌∙◌}
use mathlib.Core.List.{[], ◌++◌}
use native.Mathlib.Omega.{arith}
use Rattle.records.proofs.StartTables.{part_laid}
use Rattle.run_step.proofs.Leaves.{pos}
use Rattle.spec_image.specs.Layout.{env_words}
use Rattle.spec_image.specs.Image.{env_part}
use Rattle.run_loop.proofs.Starting.{cleared, two_set, main_spent, file_laid, main_known, begun_fit, begun_describes, begun_at_fit, begun_ends}
use Rattle.run_loop.proofs.begin.Goals as goal

pub returns-then-allowed-eq0 : goal.returns-then-allowed-eq0
returns-then-allowed-eq0 c α R e fit = main_spent _ _ α _ R c.if-allowed-eq0.true e

pub starts_of-starts-requires : goal.starts_of-starts-requires
starts_of-starts-requires c = file_laid c.args.file.now c.requires.0.passed

pub count_of-count-requires : goal.count_of-count-requires
count_of-count-requires c = omega (arith, (file_laid c.args.file.now c.requires.0.passed).heads, main_known c.args.file.now c.requires.0.passed)

pub bounds-m-1 : goal.bounds-m-1
bounds-m-1 c = simp length-set (omega arith)

pub vars_of-requires : goal.vars_of-requires
vars_of-requires c = omega (arith, (file_laid c.args.file.now c.requires.0.passed).heads, main_known c.args.file.now c.requires.0.passed)

pub body_of-requires : goal.body_of-requires
body_of-requires c = part_laid _ c.starts_of-starts.result 0 _ _ c.starts_of-starts.ensures (main_known c.args.file.now c.requires.0.passed) refl c.count_of-count.ensures.0

pub go-requires : goal.go-requires
go-requires c = let k = main_known c.args.file.now c.requires.0.passed in
    let i = c.starts_of-starts.ensures.1 0 k in
    let w = c.wide.ensures.0 ∙ c.vars_of.ensures in (
      begun_at_fit c.args.file.now c.requires.0.passed c.requires.0.environment c.requires.0.fit _ (c.body_of.ensures 0 i c.count_of-count.ensures.0) _ w (λ j. (c.shared_slice_known-1.given j).fits) c.starts_of-starts.result _ _ _ c.requires.0.rest
          c.starts_of-starts.ensures i c.count_of-count.ensures.0
          (c.enter_main.ensures 14720 (env_words c.requires.0.environment ++ c.requires.0.rest) (unfold env_part in (cleared _ _ c.requires.0.rest tt c.requires.0.held 14720 refl)) refl (omega (arith, w, (file_laid c.args.file.now c.requires.0.passed).vars 0 k))),
      omega (arith, c.enter_main.auto.m, two_set c.args.m.now, c.requires.1),
      pos c.if-allowed-eq0.false,
    )

pub shape_of-m : goal.shape_of-m
shape_of-m c = c.go.auto.m ∙ c.enter_main.auto.m ∙ two_set c.args.m.now

pub returns : goal.returns
returns c α R e fit = let k = main_known c.args.file.now c.requires.0.passed in
    let i = c.starts_of-starts.ensures.1 0 k in
    let w = c.wide.ensures.0 ∙ c.vars_of.ensures in
    let g = c.body_of.ensures 0 i c.count_of-count.ensures.0 in
    begun_ends c.args.file.now c.requires.0.passed α fit _ g _ w _ _ _ _ R (pos c.if-allowed-eq0.false)
    (c.go.ensures α 0 _ [] [] R
    (c.enter_main.ensures 14720 (env_words α ++ R) (unfold env_part in (cleared _ _ R tt e 14720 refl)) refl (omega (arith, w, (file_laid c.args.file.now c.requires.0.passed).vars 0 k)))
    (begun_describes c.args.file.now c.requires.0.passed α fit _ g _ w _ _ i c.count_of-count.ensures.0) (begun_fit c.args.file.now c.requires.0.passed α fit _ g _ w (λ j. (c.shared_slice_known-1.given j).fits)))
