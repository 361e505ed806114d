use Rattle.fit_image.proofs.Sound.{image_sound}
use Rattle.fit_image.proofs.Complete.{image_complete}
use mathlib.Core.Path.{sym, ◌∙◌}
use Rattle.fit_image.proofs.holds_image.Goals as goal

pub returns : goal.returns
returns c = let e = c.image_ok.ensures in record { sound = λ h. image_sound _ c.requires (sym e ∙ h); complete = λ s w n h. e ∙ image_complete _ s w n h }
