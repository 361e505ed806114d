use borrow.Author.Tests.{not-true, not-false}
use Rattle.entry_memory.proofs.Questions.{image_held, no_image, an_image}
use Rattle.entry_memory.proofs.holds_fit.Goals as goal

pub returns-then-not-holds_image : goal.returns-then-not-holds_image
returns-then-not-holds_image c = no_image _ _ c.requires.0 _ c.holds_image.ensures.complete (not-true _ c.if-not-holds_image.true-raw)

pub fits-requires : goal.fits-requires
fits-requires c = (c.requires.0, c.requires.1, image_held _ (c.holds_image.ensures.sound (not-false _ c.if-not-holds_image.false-raw)))

pub returns : goal.returns
returns c = an_image _ _ _ (c.holds_image.ensures.sound (not-false _ c.if-not-holds_image.false-raw)) c.fits.ensures
