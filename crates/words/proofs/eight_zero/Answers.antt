use Rattle.words.proofs.Tests.{eight_words}
use Rattle.words.proofs.eight_zero.Goals as goal

pub returns : goal.returns
returns c = eight_words c.args.s.now c.requires
