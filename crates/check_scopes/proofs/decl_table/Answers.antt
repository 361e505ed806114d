use Rattle.std.proofs.Common.{rules}
use Rattle.check_scopes.proofs.Decls.{noted_none, decl_known}
use Rattle.check_scopes.proofs.decl_table.Goals as goal

pub loop-i-init : goal.loop-i-init
loop-i-init c = noted_none _

pub note_decl-requires-clause-narrow : goal.note_decl-requires-clause-narrow
note_decl-requires-clause-narrow c = decl_known _ _ _ c.requires.named (search rules)
