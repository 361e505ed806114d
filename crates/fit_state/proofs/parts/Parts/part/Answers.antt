use Rattle.records.proofs.StartTables.{part_cut}
use Rattle.fit_state.proofs.parts.Parts.part.Goals as goal

pub invariant_of-result : goal.invariant_of-result
invariant_of-result c = let a = c.args.self.now in record { known = record { passed = a.passed; known = c.requires; part = part_cut a.file.now c.args.f (a.laid.1 c.args.f c.requires) c.count_of-nodes.ensures.0; count = c.count_of-nodes.ensures.0 } }
