use Rattle.fit_nodes.proofs.AcceptedParts.{inside, named}
use Rattle.fit_nodes.proofs.Part.decls.Goals as goal

pub decl_table-requires : goal.decl_table-requires
decl_table-requires c = record { inside = inside c.args.self.now.known; named = named c.args.self.now.known }
