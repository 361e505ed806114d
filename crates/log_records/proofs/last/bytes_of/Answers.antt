use Rattle.log_records.proofs.LastRecords.{bytes_whole, bytes_few}
use Rattle.log_records.proofs.last.bytes_of.Goals as goal

pub returns-then-n-eq-WHOLE_NUMBER : goal.returns-then-n-eq-WHOLE_NUMBER
returns-then-n-eq-WHOLE_NUMBER c = bytes_whole _ c.if-n-eq-WHOLE_NUMBER.true

pub returns : goal.returns
returns c = bytes_few _ c.if-n-eq-WHOLE_NUMBER.false
