use Prim.Native.Nat.{◌≤◌}
use native.Mathlib.Omega.{arith}
use lib.ListN.{length}
use borrow.Author.Tests.{ltb-true, ltb-false, eqb-true, eqb-false, not-true, not-false}
use Rattle.spec_log.specs.Records.{mark_number}
use Rattle.log_records.proofs.LastRecords.{bytes_least, last-is, none_past, none_short, none_long, none_over, none_marked, some}
use Rattle.log_records.proofs.last.last_bytes.Goals.{then-log-used-via-then-log-used, then-log-used-via-else-log-used+then-used-lt4, then-bytes-gt-LONGEST-via-then-bytes-gt-LONGEST, then-bytes-gt-LONGEST-via-else-bytes-gt-LONGEST+then-used-bytes, then-bytes-gt-LONGEST-via-else-bytes-gt-LONGEST+else-used-bytes+then-u16_at-ne-MARK}
use Rattle.log_records.proofs.last.last_bytes.Goals as goal

pub returns-then-log-used : goal.returns-then-log-used
returns-then-log-used c = let a = c.args in
    elim c.then-log-used.branch [
      | then-log-used-via-then-log-used w ↦ none_past _ _ w.if-log-used.true
      | then-log-used-via-else-log-used+then-used-lt4 w ↦ none_short _ _ (ltb-true a.used 4 w.if-used-lt4.true-raw)
    ]

pub overflow_sub-used : goal.overflow_sub-used
overflow_sub-used c = let h = ltb-false c.args.used 4 c.if-used-lt4.false-raw in omega arith

pub u16_at-requires : goal.u16_at-requires
u16_at-requires c = let a = c.args in
    let h = ltb-false a.used 4 c.if-used-lt4.false-raw in
    let l : a.used ≤ length a.log.now = c.if-log-used.false in
    omega arith

pub u16_at-requires-else-used-bytes : goal.u16_at-requires-else-used-bytes
u16_at-requires-else-used-bytes c = let a = c.args in
    let b : 4 ≤ c.bytes_of-bytes.result = rw c.bytes_of-bytes.ensures (bytes_least _) in
    let h = ltb-false a.used 4 c.if-used-lt4.false-raw in
    let l : a.used ≤ length a.log.now = c.if-log-used.false in
    omega arith

pub returns-then-bytes-gt-LONGEST : goal.returns-then-bytes-gt-LONGEST
returns-then-bytes-gt-LONGEST c = let a = c.args in
    let r = c.bytes_of-bytes.result in
    let q = last-is _ _ _ _ c.u16_at.ensures.0 c.bytes_of-bytes.ensures in
    elim c.then-bytes-gt-LONGEST.branch [
      | then-bytes-gt-LONGEST-via-then-bytes-gt-LONGEST w ↦ none_long _ _ r q w.if-bytes-gt-LONGEST.true
      | then-bytes-gt-LONGEST-via-else-bytes-gt-LONGEST+then-used-bytes w ↦ none_over _ _ r q (ltb-true a.used r w.if-used-bytes.true-raw)
      | then-bytes-gt-LONGEST-via-else-bytes-gt-LONGEST+else-used-bytes+then-u16_at-ne-MARK w ↦ none_marked _ _ r q w.u16_at-else-used-bytes.result w.u16_at-else-used-bytes.ensures.0 (eqb-false _ mark_number (not-true _ w.if-u16_at-ne-MARK.true-raw))
    ]

pub returns : goal.returns
returns c = let a = c.args in
    let r = c.bytes_of-bytes.result in
    let q = last-is _ _ _ _ c.u16_at.ensures.0 c.bytes_of-bytes.ensures in
    some _ _ r q c.u16_at-else-used-bytes.result c.u16_at-else-used-bytes.ensures.0 c.if-log-used.false c.if-bytes-gt-LONGEST.false (ltb-false a.used r c.if-used-bytes.false-raw) (eqb-true _ mark_number (not-false _ c.if-u16_at-ne-MARK.false-raw))
