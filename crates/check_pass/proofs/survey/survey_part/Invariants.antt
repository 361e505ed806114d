use mathlib.Core.Bool.{not}
use Rattle.records.proofs.Loops.{Below}
use Rattle.spec_language.specs.Nodes.{node_ok}
use Rattle.check_scopes.specs.Counts.{Counts, Noted}
use Rattle.check_pass.proofs.survey.survey_part.Given as goal

abbrev pub invariant-loop-i : goal.invariant-loop-i
invariant-loop-i l = Below (λ k. not (node_ok l.file l.f l.part k)) l.i × Counts l.part l.i l.d × Noted l.part l.i l.table
