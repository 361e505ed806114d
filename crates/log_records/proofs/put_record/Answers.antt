use native.Mathlib.Omega.{arith}
use Rattle.spec_log.proofs.Records.{record_least}
use Rattle.log_records.proofs.Whole.{few_room, few_put, many_room, many_put}
use borrow.Author.Rules.{rules}
use Rattle.log_records.proofs.put_record.Goals as goal

pub put_u16-requires : goal.put_u16-requires
put_u16-requires c = omega (arith, record_least c.args.a.now c.args.b.now c.requires.0.before_long, c.requires.2)

pub put_all_changes-end-requires : goal.put_all_changes-end-requires
put_all_changes-end-requires c = (c.requires.0, omega (arith, few_room c.args.a.now c.args.b.now c.args.k c.requires.1 c.args.at _ c.if-k-le-MOST_CHANGES.true c.requires.2))

pub put_u16-requires-then-k-le-MOST_CHANGES : goal.put_u16-requires-then-k-le-MOST_CHANGES
put_u16-requires-then-k-le-MOST_CHANGES c = omega (arith, few_room c.args.a.now c.args.b.now c.args.k c.requires.1 c.args.at _ c.if-k-le-MOST_CHANGES.true c.requires.2, c.put_all_changes-end.ensures.end)

pub returns-then-k-le-MOST_CHANGES : goal.returns-then-k-le-MOST_CHANGES
returns-then-k-le-MOST_CHANGES c = record { log = few_put c.args.a.now c.args.b.now c.args.k c.requires.1 c.args.log.now c.args.at c.if-k-le-MOST_CHANGES.true c.put_u16.ensures c.put_all_changes-end.ensures.log c.put_all_changes-end.ensures.end c.put_u16-then-k-le-MOST_CHANGES.ensures; words = c.put_all_changes-end.ensures.words }

pub put_words-requires : goal.put_words-requires
put_words-requires c = (search rules, omega (arith, many_room c.args.a.now c.args.b.now c.args.k c.requires.1 c.args.at _ c.requires.0.before_long c.if-k-le-MOST_CHANGES.false c.requires.2, c.requires.0.before_long))

pub put_u16-requires-2 : goal.put_u16-requires-2
put_u16-requires-2 c = omega (arith, many_room c.args.a.now c.args.b.now c.args.k c.requires.1 c.args.at _ c.requires.0.before_long c.if-k-le-MOST_CHANGES.false c.requires.2)

pub returns : goal.returns
returns c = record { log = many_put c.args.a.now c.args.b.now c.args.k c.requires.1 c.args.log.now c.args.at c.requires.0.before_long c.if-k-le-MOST_CHANGES.false c.put_u16.ensures c.put_words.ensures.log c.put_u16-2.ensures; words = c.put_words.ensures.words }
