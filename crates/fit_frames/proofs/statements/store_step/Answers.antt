use mathlib.Core.Path.{◌∙◌}
use borrow.Author.Tests.{lt-ltb, le-ltb}
use native.Mathlib.Omega.{arith}
use Rattle.fit_frames.proofs.Files.{laid, record_in_lem, has_var_lem}
use Rattle.fit_frames.proofs.Steps.{store_unknown, store_law}
use Rattle.fit_frames.proofs.statements.store_step.Goals as goal

pub vars_of-requires : goal.vars_of-requires
vars_of-requires c = let p = c.args.known.now.part in record_in_lem p.file.now p.known.passed p.function p.known.known

pub insert-requires : goal.insert-requires
insert-requires c = let p = c.args.known.now.part in omega (arith, (laid p.file.now p.known.passed).vars p.function p.known.known, c.wide.ensures.0, c.vars_of.ensures, c.if-wide-x.false)

pub returns-then-wide-x : goal.returns-then-wide-x
returns-then-wide-x c = let p = c.args.known.now.part in store_unknown c.in_ok-kind.was (has_var_lem p.file.now p.known.passed p.function p.known.known c.args.x ∙ le-ltb _ _ (rw (c.wide.ensures.0, c.vars_of.ensures) at c.if-wide-x.true))

pub returns : goal.returns
returns c = let p = c.args.known.now.part in store_law c.in_ok-kind.was (has_var_lem p.file.now p.known.passed p.function p.known.known c.args.x ∙ lt-ltb _ _ (rw (c.wide.ensures.0, c.vars_of.ensures) at c.if-wide-x.false)) (c.if-kind-variable_type.false ∙ c.variable_type.ensures) (c.bare.ensures ∙ rw c.insert.ensures)
