use Rattle.check_effects.proofs.Covering.{inserted}
use native.Mathlib.Omega.{arith}
use Rattle.check_effects.proofs.with_decl.Goals as goal

pub insert-requires : goal.insert-requires
insert-requires c = rw c.b_at.ensures (c.requires.1 (omega arith))

pub returns-then-kind_at-eq9 : goal.returns-then-kind_at-eq9
returns-then-kind_at-eq9 c = record { grown = (inserted _ _ _ _ c.insert.ensures c.b_at.ensures).0; own = λ e. (inserted _ _ _ _ c.insert.ensures c.b_at.ensures).1 }

pub returns-else-kind_at-eq9 : goal.returns-else-kind_at-eq9
returns-else-kind_at-eq9 c = record { grown = λ x l. l; own = λ e. absurd (omega arith) }
