use mathlib.Core.Path.{◌∙◌}
use native.Mathlib.Omega.{arith}
use borrow.Author.Rules.{rules}
use Rattle.log_records.proofs.LastRecords.{used_within, bytes_within, words_within, words_before_lem, changes_within, changes_before}
use Rattle.log_records.proofs.last.restore.Goals as goal

pub overflow_sub-used : goal.overflow_sub-used
overflow_sub-used c = let h = used_within _ _ c.requires.0 in omega arith

pub u16_at-n-requires : goal.u16_at-n-requires
u16_at-n-requires c = let h = used_within _ _ c.requires.0 in omega arith

pub overflow_sub-at : goal.overflow_sub-at
overflow_sub-at c = (bytes_within _ _ _ _ c.requires.0 c.u16_at-n.ensures.0 c.bytes_of.ensures).1

pub overflow_add-at : goal.overflow_add-at
overflow_add-at c = let h = bytes_within _ _ _ _ c.requires.0 c.u16_at-n.ensures.0 c.bytes_of.ensures in search rules

pub restore_words-requires : goal.restore_words-requires
restore_words-requires c = words_within _ _ _ _ c.requires.0 c.u16_at-n.ensures.0 c.bytes_of.ensures c.if-n-eq-WHOLE_NUMBER.true _ c.requires.1

pub restore_changes-requires : goal.restore_changes-requires
restore_changes-requires c = changes_within _ _ _ _ c.requires.0 c.u16_at-n.ensures.0 c.bytes_of.ensures c.if-n-eq-WHOLE_NUMBER.false

pub returns-then-n-eq-WHOLE_NUMBER : goal.returns-then-n-eq-WHOLE_NUMBER
returns-then-n-eq-WHOLE_NUMBER c = let s = c.args in
    c.restore_words.ensures ∙ words_before_lem _ _ _ _ c.requires.0 c.u16_at-n.ensures.0 c.bytes_of.ensures c.if-n-eq-WHOLE_NUMBER.true s.m.now _ c.requires.1

pub returns-else-n-eq-WHOLE_NUMBER : goal.returns-else-n-eq-WHOLE_NUMBER
returns-else-n-eq-WHOLE_NUMBER c = let s = c.args in
    c.restore_changes.ensures ∙ changes_before _ _ _ _ c.requires.0 c.u16_at-n.ensures.0 c.bytes_of.ensures c.if-n-eq-WHOLE_NUMBER.false s.m.now
