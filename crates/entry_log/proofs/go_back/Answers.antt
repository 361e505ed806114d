use mathlib.Core.Path.{sym, ap, ◌∙◌}
use lib.Seq.{length-take-le}
use Rattle.spec_image.specs.Sizes.{size}
use Rattle.spec_log.specs.Records.{earlier}
use Rattle.run_loop.proofs.Holding.{words_held}
use Rattle.entry_log.proofs.Backs.{unfit, stood, elsewhere, leads_back_lem}
use borrow.Author.Rules.{rules}
use Rattle.entry_log.proofs.go_back.Goals.{then-ran-eq0-via-then-ran-eq0, then-ran-eq0-via-else-ran-eq0+then-not-is_same}
use Rattle.entry_log.proofs.go_back.Goals as goal

pub slice_bounds-copy-end-3 : goal.slice_bounds-copy-end-3
slice_bounds-copy-end-3 c = sym (length-take-le size c.args.m.now c.requires.1)

pub copy-requires : goal.copy-requires
copy-requires c = sym (length-take-le size c.args.m.now c.requires.1)

pub returns-then-not-holds_fit : goal.returns-then-not-holds_fit
returns-then-not-holds_fit c = let e = c.restore.ensures ∙ ap (earlier _ _) c.copy.ensures in
    let q = unfit _ _ _ _ c.requires.2 c.requires.1 _ e (sym c.holds_fit.ensures ∙ c.if-not-holds_fit.true) in record { answer = q.0; memory = q.1 }

pub run-ran-requires : goal.run-ran-requires
run-ran-requires c = (words_held _ _ c.requires.0.passed (sym c.holds_fit.ensures ∙ c.if-not-holds_fit.false), search rules)

pub slice_bounds-is_same-end-else-ran-eq0-2 : goal.slice_bounds-is_same-end-else-ran-eq0-2
slice_bounds-is_same-end-else-ran-eq0-2 c = sym (length-take-le size c.args.m.now c.requires.1)

pub is_same-requires : goal.is_same-requires
is_same-requires c = let e = length-take-le size c.args.m.now c.requires.1 in search rules

pub returns-then-ran-eq0 : goal.returns-then-ran-eq0
returns-then-ran-eq0 c = let e = c.restore.ensures ∙ ap (earlier _ _) c.copy.ensures in
    let f = sym c.holds_fit.ensures ∙ c.if-not-holds_fit.false in
    elim c.then-ran-eq0.branch [
      | then-ran-eq0-via-then-ran-eq0 w ↦ let q = stood _ _ _ _ c.requires.2 c.requires.1 _ e f _ _ _ c.run-ran.ensures w.if-ran-eq0.true in record { answer = q.0; memory = q.1 }
      | then-ran-eq0-via-else-ran-eq0+then-not-is_same w ↦ let q = elsewhere _ _ _ _ c.requires.2 c.requires.1 _ e f _ _ _ c.run-ran.ensures w.if-ran-eq0.false (sym w.is_same.ensures ∙ w.if-not-is_same.true) in record { answer = q.0; memory = q.1 }
    ]

pub slice_bounds-restore-end-3 : goal.slice_bounds-restore-end-3
slice_bounds-restore-end-3 c = sym (length-take-le size c.args.m.now c.requires.1)

pub restore-requires-2 : goal.restore-requires-2
restore-requires-2 c = (c.requires.2, length-take-le size c.args.m.now c.requires.1)

pub returns : goal.returns
returns c = let e = c.restore.ensures ∙ ap (earlier _ _) c.copy.ensures in
    let f = sym c.holds_fit.ensures ∙ c.if-not-holds_fit.false in
    let q = leads_back_lem _ _ _ _ c.requires.2 c.requires.1 _ e f _ _ _ c.run-ran.ensures c.if-ran-eq0.false (sym c.is_same.ensures ∙ c.if-not-is_same.false) _ c.restore-2.ensures in record { answer = q.0; memory = q.1 }
