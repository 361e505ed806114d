use Rattle.desk_digest.specs.Sha256.{word_at}
use Rattle.desk_digest.proofs.Paddings.{inside}
use Rattle.std.proofs.Common.{rules, arith}
use Rattle.desk_digest.proofs.padding.word_at.Goals as goal

pub overflow_add-at : goal.overflow_add-at
overflow_add-at c = record { fits = inside c.args.bytes.now _ c.well_formed.0.1 (search rules) }

pub overflow_add-at-2 : goal.overflow_add-at-2
overflow_add-at-2 c = record { fits = inside c.args.bytes.now _ c.well_formed.0.1 (search rules) }

pub overflow_add-at-3 : goal.overflow_add-at-3
overflow_add-at-3 c = record { fits = inside c.args.bytes.now _ c.well_formed.0.1 (search rules) }

pub returns : goal.returns
unfolding word_at
returns c = rw (← c.padded_byte-b0.ensures, ← c.padded_byte-b1.ensures, ← c.padded_byte-b2.ensures, ← c.padded_byte-b3.ensures) (omega (arith, c.from_be_bytes.ensures))
