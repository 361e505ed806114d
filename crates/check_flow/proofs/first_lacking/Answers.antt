use Rattle.check_flow.proofs.Descending.{lacking_within}
use Rattle.check_flow.proofs.first_lacking.Goals as goal

pub returns-clause-within : goal.returns-clause-within
returns-clause-within c = lacking_within _ c.requires.part.0.nodes c.requires.part.1 c.first_empty.ensures
