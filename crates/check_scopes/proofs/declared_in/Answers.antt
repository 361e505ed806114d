use Rattle.std.proofs.Common.{rules}
use Rattle.check_scopes.proofs.Decls.{counts_none, decl_known}
use Rattle.check_scopes.proofs.declared_in.Goals as goal

pub loop-i-init : goal.loop-i-init
loop-i-init c = counts_none _ _ c.empty.ensures c.empty-2.ensures

pub count_decl-d-requires-clause-narrow : goal.count_decl-d-requires-clause-narrow
count_decl-d-requires-clause-narrow c = decl_known _ _ _ c.requires.named (search rules)
