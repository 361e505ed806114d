use Rattle.std.proofs.Common.{arith, refl, rules}
use Rattle.check_scopes.proofs.Decls.{uses_is, use_known, no_use}
use Rattle.check_scopes.proofs.is_outside.Goals as goal

pub strays-requires-clause-uses : goal.strays-requires-clause-uses
strays-requires-clause-uses c = use_known _ _ _ _ c.requires.named (omega arith) refl (uses_is _ (rw c.kind_at.ensures at c.in-2.is))

pub returns-in_default : goal.returns-in_default
returns-in_default c = no_use _ _ _ _ _ _ c.kind_at.ensures (search rules)
