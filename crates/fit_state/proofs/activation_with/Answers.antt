use Rattle.fit_nodes.proofs.AcceptedParts.{well-formed}
use Rattle.fit_state.proofs.activation_with.Goals as goal

pub fill-requires : goal.fill-requires
fill-requires c = (well-formed c.args.part.now.known, c.requires.table.0)
