use borrow.Author.Tests.{not-true, not-false}
use Rattle.check_file.specs.Answers.{says}
use mathlib.Core.Path.{sym, ◌∙◌}
use Rattle.check_file.proofs.Stages.{not_twelves, too_short, two_fails, three_fails, three_passes}
use borrow.Author.Rules.{rules}
use Rattle.check_file.proofs.check.Goals as goal

pub returns-then-len-ne0 : goal.returns-then-len-ne0
unfolding says
returns-then-len-ne0 c = rw c.whole.ensures (record { exact = sym (not_twelves _ c.if-len-ne0.true); small = (search rules, search rules) })

pub returns-then-len-lt-SHORTEST_FILE : goal.returns-then-len-lt-SHORTEST_FILE
unfolding says
returns-then-len-lt-SHORTEST_FILE c = rw c.whole-then-len-lt-SHORTEST_FILE.ensures (record { exact = sym (too_short _ c.if-len-ne0.false c.if-len-lt-SHORTEST_FILE.true); small = (search rules, search rules) })

pub returns-then-not-header_ok : goal.returns-then-not-header_ok
unfolding says
returns-then-not-header_ok c = rw c.whole-then-not-header_ok.ensures (record { exact = sym (two_fails _ c.if-len-ne0.false c.if-len-lt-SHORTEST_FILE.false (sym c.header_ok.ensures ∙ not-true _ c.if-not-header_ok.true-raw)); small = (search rules, search rules) })

pub returns-then-not-records_ok : goal.returns-then-not-records_ok
unfolding says
returns-then-not-records_ok c = rw c.whole-then-not-records_ok.ensures (record { exact = sym (three_fails _ c.if-len-ne0.false c.if-len-lt-SHORTEST_FILE.false (sym c.header_ok.ensures ∙ not-false _ c.if-not-header_ok.false-raw) (sym c.records_ok.ensures ∙ not-true _ c.if-not-records_ok.true-raw)); small = (search rules, search rules) })

pub check_functions-requires : goal.check_functions-requires
check_functions-requires c = (search rules, sym c.header_ok.ensures ∙ not-false _ c.if-not-header_ok.false-raw, sym c.records_ok.ensures ∙ not-false _ c.if-not-records_ok.false-raw)

pub returns : goal.returns
returns c = record { exact = c.check_functions.ensures.exact ∙ sym (three_passes _ c.if-len-ne0.false c.if-len-lt-SHORTEST_FILE.false (sym c.header_ok.ensures ∙ not-false _ c.if-not-header_ok.false-raw) (sym c.records_ok.ensures ∙ not-false _ c.if-not-records_ok.false-raw)); small = c.check_functions.ensures.small }
