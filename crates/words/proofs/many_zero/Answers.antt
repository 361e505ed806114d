use Rattle.words.proofs.Tests.{part_joined}
use Rattle.words.proofs.many_zero.Goals as goal

pub returns : goal.returns
returns c = let l = c.args.s.now in part_joined l 24 8 _ _ (part_joined l 16 8 _ _ (part_joined l 8 8 _ _ c.eight_zero.ensures c.eight_zero-2.ensures) c.eight_zero-3.ensures) c.eight_zero-4.ensures
