use Rattle.check_pass.proofs.Kids.{fits-is}
use Rattle.check_pass.proofs.nodes.Node.fits.Goals as goal

pub returns : goal.returns
returns c = fits-is _ _ _ _ c.size_at.ensures.0
