use Rattle.desk_digest.proofs.Paddings.{padded_length, at_message, at_one, at_zero, at_length, length_bytes_low}
use Rattle.std.proofs.Common.{arith}
use Rattle.desk_digest.proofs.padding.padded_byte.Goals as goal

pub returns-then-i-n : goal.returns-then-i-n
returns-then-i-n c = at_message _ _ c.if-i-n.true

pub returns-then-i-n-2 : goal.returns-then-i-n-2
returns-then-i-n-2 c = at_one _ _ c.if-i-n-2.true

pub returns-then-i-last : goal.returns-then-i-last
returns-then-i-last c = at_zero _ _ (omega arith) c.if-i-last.true

pub bounds-to_be_bytes-i : goal.bounds-to_be_bytes-i
bounds-to_be_bytes-i c = let l = padded_length c.args.bytes.now in omega arith

pub returns : goal.returns
returns c = rw (c.to_be_bytes.ensures, length_bytes_low) (at_length _ _ (omega arith) c.if-i-last.false)
