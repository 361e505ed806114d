use mathlib.Core.Logic.{inl, inr}
use mathlib.Core.Path.{refl, sym, ap, ◌∙◌}
use native.Mathlib.Omega.{arith}
use Prim.Native.Nat.{◌-◌, ◌<◌}
use lib.ListN.{length}
use Rattle.records.proofs.Bools.{clash}
use Rattle.spec_language.proofs.KindLists.{statement_outside}
use Rattle.spec_machine.specs.Program.{if_of}
use Rattle.spec_machine.specs.Machine.{Frame, wait, branch, exec}
use Rattle.spec_machine.specs.File.{ref_at, program_of}
use Rattle.spec_image.specs.Layout.{ref_word, frame_words, block}
use Rattle.state_words.specs.Meaning.{value_is, control_is}
use Rattle.spec_image.proofs.ValueWords.{ref_back}
use Rattle.run_rules.proofs.Entries.{on_is}
use Rattle.run_step.proofs.Facts.{variables_few, decl_variable}
use Rattle.run_step.proofs.Forms.{form_seq, form_assign, form_decl, form_if, form_while, single_done}
use borrow.Author.Rules.{rules}
use Rattle.run_step.proofs.statements.execute_node.Goals.{in_default-via-then-kind-lt7, in_default-via-else-kind-lt7+else-kind-lt15}
use Rattle.run_step.proofs.statements.execute_node.Goals as goal

pub store_variable-requires : goal.store_variable-requires
store_variable-requires c = (c.requires.bounds.0, rw c.b_at-in-9.ensures (c.requires.variable (sym c.kind_at-kind.ensures ∙ c.in-9.is)))

pub unreachable-requires : goal.unreachable-requires
unreachable-requires c = clash _ c.requires.bounds.4 (rw (← c.kind_at-kind.ensures) (statement_outside c.kind_at-kind.result (elim c.in_default.branch [ in_default-via-then-kind-lt7 w ↦ inl (omega arith) | in_default-via-else-kind-lt7+else-kind-lt15 w ↦ inr (omega arith) ])))

pub returns-in-7 : goal.returns-in-7
unfolding control_is frame_words block
returns-in-7 c s α f η K A R e t pass part fit = let k = sym c.kind_at-kind.ensures ∙ c.in-7.is in
    rw (form_seq _ _ c.requires.bounds.3 k, ← c.prior-first.ensures, ← c.ref_word_at.ensures.1)
    (c.lay.ensures s α f η (wait (ref_at c.args.part.now (c.args.i - 1))) K A R e t (rw c.ref_word_at-word.ensures.0))

pub returns-in-8 : goal.returns-in-8
unfolding program_of frame_words block
returns-in-8 c s α f η K A R e t pass part fit = let k = sym c.kind_at-kind.ensures ∙ c.in-8.is in
    rw (form_assign _ _ c.requires.bounds.3 k, ← part, ← c.reach.ensures, ← c.b_at.ensures)
    (c.lay-in-8.ensures s α f η (Frame.store _) K A R e t refl)

pub returns-in-9 : goal.returns-in-9
unfolding control_is value_is
returns-in-9 c s α f η K A R e t pass part fit = let k = sym c.kind_at-kind.ensures ∙ c.in-9.is in
    let w = form_decl _ _ c.requires.bounds.3 k in
    let x = decl_variable s pass α f η K A _ _ _ fit (rw part at w) in
    let y : c.b_at-in-9.result < length η = rw (c.b_at-in-9.ensures, part) x in
    rw (w, ← c.ref_word_at-in-9.ensures.1, ← c.b_at-in-9.ensures)
    (c.store_variable.ensures s α f η K A R e t y (variables_few s pass _ α f η K A fit))

pub returns-in-10 : goal.returns-in-10
unfolding program_of frame_words block
returns-in-10 c s α f η K A R e t pass part fit = let k = sym c.kind_at-kind.ensures ∙ c.in-10.is in
    rw (form_if _ _ c.requires.bounds.3 k _ c.prior-first-in-10.ensures, ← part, ← c.prior-condition.ensures, ← c.reach-in-10.ensures)
    (c.lay-in-10.ensures s α f η (branch (ref_at c.args.part.now c.prior-first-in-10.result) (ref_at c.args.part.now (c.args.i - 1))) K A R e t
    (rw (c.ref_word_at-x.ensures.0, c.ref_word_at-y.ensures.0)))

pub returns-in-11 : goal.returns-in-11
unfolding control_is ref_word
returns-in-11 c s α f η K A R e t pass part fit = let k = sym c.kind_at-kind.ensures ∙ c.in-11.is in
    rw (form_while _ _ c.requires.bounds.3 k) (on_is s _ _ _ _ R α _ f η η K A (ap exec (ref_back (if_of c.args.i))) refl e t c.requires.bounds.0.1 c.requires.bounds.0.2)

pub returns-in-12-to-14 : goal.returns-in-12-to-14
returns-in-12-to-14 c s α f η K A R e t pass part fit = single_done s _ _ _ _ R α f η K A _ c.requires.bounds.3 part _ (rw (← c.kind_at-kind.ensures) (search rules)) (rw (← c.kind_at-kind.ensures) (search rules)) (rw (c.wide.ensures.0, c.kind_at-kind.ensures))
    (λ fr w. rw (← c.reach-in-12-to-14.ensures) (c.lay-in-12-to-14.ensures s α f η fr K A R e t w))
