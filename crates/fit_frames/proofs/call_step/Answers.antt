use mathlib.Core.Path.{sym, ◌∙◌}
use native.Mathlib.Omega.{arith}
use borrow.Author.Tests.{lt-ltb, le-ltb}
use Rattle.records.specs.Fields.{mask_of, params_of}
use Rattle.spec_machine.specs.File.{program_of, fun_of}
use Rattle.spec_image.specs.Decode.{operands}
use Rattle.spec_language.specs.Types.{mask_type}
use Rattle.fit_frames.proofs.Steps.{gather_unknown, gather_less, gather_law}
use Rattle.fit_frames.proofs.Files.{laid, record_in_lem, call_wants}
use Rattle.fit_frames.proofs.call_step.Goals as goal

pub function_count-requires : goal.function_count-requires
function_count-requires c = let p = c.args.known.now.part in omega (arith, (laid p.file.now p.known.passed).heads)

pub returns-then-function_count-g : goal.returns-then-function_count-g
unfolding operands program_of
returns-then-function_count-g c = gather_unknown c.in_ok-kind.was (rw (sym c.word-g.ensures) (le-ltb _ _ (rw c.function_count.ensures.0 at c.if-function_count-g.true)))

pub params_of-requires : goal.params_of-requires
params_of-requires c = let p = c.args.known.now.part in record_in_lem p.file.now p.known.passed c.word-g.result (rw c.function_count.ensures.0 at c.if-function_count-g.false)

pub mask_of-requires : goal.mask_of-requires
mask_of-requires c = let p = c.args.known.now.part in record_in_lem p.file.now p.known.passed c.word-g.result (rw c.function_count.ensures.0 at c.if-function_count-g.false)

pub result_of-requires : goal.result_of-requires
result_of-requires c = let p = c.args.known.now.part in record_in_lem p.file.now p.known.passed c.word-g.result (rw c.function_count.ensures.0 at c.if-function_count-g.false)

pub gathers-requires : goal.gathers-requires
gathers-requires c = let p = c.args.known.now.part in omega (arith, (laid p.file.now p.known.passed).params c.word-g.result (rw c.function_count.ensures.0 at c.if-function_count-g.false), c.wide-count.ensures.0, c.params_of.ensures)

pub returns-then-not-gathers : goal.returns-then-not-gathers
unfolding operands program_of fun_of
returns-then-not-gathers c = let s = c.args.known.now.part.file.now in let g = c.word-g.result in rw (← c.word-g.ensures) (gather_less c.in_ok-kind.was (mask_type (mask_of s g) 0 0) (params_of s g) (lt-ltb _ _ (rw c.function_count.ensures.0 at c.if-function_count-g.false)) (call_wants s g) (rw (c.mask_of.ensures, c.wide-count.ensures.0, c.params_of.ensures) at c.if-not-gathers.ensures))

pub returns : goal.returns
unfolding operands program_of fun_of
returns c = let s = c.args.known.now.part.file.now in let g = c.word-g.result in rw (← c.word-g.ensures) (gather_law c.in_ok-kind.was (mask_type (mask_of s g) 0 0) (params_of s g) (lt-ltb _ _ (rw c.function_count.ensures.0 at c.if-function_count-g.false)) (call_wants s g) (rw (c.mask_of.ensures, c.wide-count.ensures.0, c.params_of.ensures) at c.if-not-gathers.ensures) (c.giving.ensures ∙ rw c.result_of.ensures))
