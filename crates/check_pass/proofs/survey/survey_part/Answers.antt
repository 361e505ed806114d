use mathlib.Core.Bool.{not}
use mathlib.Core.Path.{sym, ap, ◌∙◌}
use native.Mathlib.Nat.{le_antisymm}
use native.Mathlib.Omega.{arith}
use borrow.Author.Count.{below_none, below_more}
use borrow.Author.Tests.{not-false}
use borrow.Author.Rules.{rules}
use Rattle.check_scopes.proofs.Decls.{counts_none, counts_other, noted_other}
use Rattle.check_pass.proofs.Surveying.{decl_narrow, surveyed}
use Rattle.check_pass.proofs.survey.survey_part.Goals.{then-not-within_limits+else-not-node_ok, else-not-within_limits}
use Rattle.check_pass.proofs.survey.survey_part.Goals as goal

pub b_limits-limits-requires : goal.b_limits-limits-requires
b_limits-limits-requires c = omega (arith, c.requires.laid.0.heads, c.requires.laid.1)

pub loop-i-init : goal.loop-i-init
loop-i-init c = (below_none _, counts_none _ _ c.empty.ensures c.empty-2.ensures, c.requires.empty)

pub within_limits-requires : goal.within_limits-requires
within_limits-requires c = record { inside = search rules; limits = (c.a_limits-tops.ensures, c.b_limits-limits.ensures) }

pub node_ok-requires : goal.node_ok-requires
node_ok-requires c = record { heads = (c.requires.laid.0.heads, c.requires.laid.1); inside = search rules }

pub returns-then-not-node_ok : goal.returns-then-not-node_ok
returns-then-not-node_ok c = λ z. absurd (omega arith)

pub count_decl-d-requires : goal.count_decl-d-requires
count_decl-d-requires c = record { inside = search rules; narrow = decl_narrow _ _ _ _ c.requires.laid.0 c.requires.laid.1 (sym c.node_ok.ensures ∙ not-false _ c.if-not-node_ok.false-raw); counted = c.loop-i.invariant.1 }

pub note_decl-requires : goal.note_decl-requires
note_decl-requires c = record { inside = omega (arith, c.requires.inside, c.loop-i-test.true); narrow = decl_narrow _ _ _ _ c.requires.laid.0 c.requires.laid.1 (sym c.node_ok.ensures ∙ not-false _ c.if-not-node_ok.false-raw); told = c.loop-i.invariant.2 }

pub loop-i-preserved : goal.loop-i-preserved
loop-i-preserved c =
    elim c.if-not-within_limits.branch [
      | then-not-within_limits+else-not-node_ok w ↦ (below_more _ _ c.loop-i.invariant.0 (sym (ap not w.node_ok.ensures) ∙ w.if-not-node_ok.false-raw), rw w.d-is w.count_decl-d.ensures, rw w.table-is w.note_decl.ensures)
      | else-not-within_limits w ↦ (below_more _ _ c.loop-i.invariant.0 (ap not (c.within_limits.ensures (not-false _ w.if-not-within_limits.false-raw)).0), rw w.d-is (counts_other _ _ _ c.loop-i.invariant.1 (c.within_limits.ensures (not-false _ w.if-not-within_limits.false-raw)).1), rw w.table-is (noted_other _ c.loop-i.table _ c.loop-i.invariant.2 (c.within_limits.ensures (not-false _ w.if-not-within_limits.false-raw)).1))
    ]

pub lowest_undeclared-requires : goal.lowest_undeclared-requires
lowest_undeclared-requires c = record { laid = (omega (arith, c.requires.laid.0.heads, c.requires.laid.1), c.requires.laid.0.vars _ c.requires.laid.1, c.requires.laid.0.params _ c.requires.laid.1); counted = rw (le_antisymm c.loop-i-test.false c.loop-i.auto.i-end) c.loop-i.invariant.1 }

pub returns : goal.returns
returns c = λ z. surveyed _ _ _ _ _ _ _ _ c.loop-i-test.false c.loop-i.auto.i-end c.loop-i.invariant.0 c.loop-i.invariant.2 c.lowest_undeclared.ensures c.past_seven.ensures.0
