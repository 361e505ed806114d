use Rattle.log_records.proofs.RecordLengths.{few_length, whole_length}
use Rattle.log_records.proofs.record_bytes.Goals as goal

pub returns-then-k-le-MOST_CHANGES : goal.returns-then-k-le-MOST_CHANGES
returns-then-k-le-MOST_CHANGES c a b ha hk = few_length a b _ ha hk c.if-k-le-MOST_CHANGES.true

pub returns : goal.returns
returns c a b ha hk = whole_length a b c.args.k ha hk c.if-k-le-MOST_CHANGES.false
