use mathlib.Core.Path.{sym, ap, ◌∙◌}
use mathlib.Core.Bool.{true, false}
use native.Mathlib.Omega.{arith}
use borrow.Author.Tests.{eq-eqb}
use Rattle.varset.specs.Sets.{Set, has, either}
use Rattle.records.specs.Fields.{result_of}
use Rattle.spec_machine.specs.File.{program_of, fun_of}
use Rattle.fit_frames.specs.Incoming.{incoming}
use Rattle.fit_frames.proofs.Steps.{leave_law}
use Rattle.fit_frames.proofs.statements.leave_step.Goals as goal

pub returns : goal.returns
unfolding program_of fun_of
returns c =
    let a = c.args in
    leave_law
    (rw c.in_ok-d.was (sym (eq-eqb c.in_ok-d.field-0 (result_of a.file.now a.f) (omega arith))))
    (c.bare.ensures ∙ ap (λ (s : Set). incoming false 0 s true) (c.union-all.ensures ∙ ap (either (has a.d.set.0)) c.full.ensures))
