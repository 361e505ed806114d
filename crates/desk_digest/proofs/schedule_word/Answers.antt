use Rattle.desk_digest.specs.Sha256.{schedule_word}
use Rattle.std.proofs.Common.{rules, le-ltb, lt-ltb}
use Rattle.desk_digest.proofs.Paddings.{inside}
use Rattle.desk_digest.proofs.schedule_word.Goals as goal

pub overflow_add-at : goal.overflow_add-at
overflow_add-at c = record { fits = inside c.args.bytes.now _ c.well_formed.0.1 (search rules) }

pub returns-then-t-lt16 : goal.returns-then-t-lt16
unfolding schedule_word
returns-then-t-lt16 c = rw (lt-ltb _ _ c.if-t-lt16.true) c.word_at.ensures

pub returns-else-t-lt16 : goal.returns-else-t-lt16
unfolding schedule_word
returns-else-t-lt16 c = rw (le-ltb _ _ c.if-t-lt16.false) c.mixed.ensures
