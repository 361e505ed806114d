use Rattle.check_summary.proofs.Stored.{more_reads, more_flows}
use native.Mathlib.Omega.{arith}
use mathlib.Core.Path.{refl}
use Rattle.check_summary.proofs.add_row.Goals as goal

pub returns-then-is_expression : goal.returns-then-is_expression
returns-then-is_expression c = more_reads _ _ _ _ _ _ _ _ (omega (arith, c.requires.part.1, c.requires.table.1)) c.put_row.ensures c.requires.table.0 (rw (← c.kind_at-kind.ensures, ← c.is_expression.ensures) c.if-is_expression.true) (rw c.plain-r.ensures.kept.2 c.expression_needs-needs.ensures)

pub returns : goal.returns
returns c = more_flows _ _ _ _ _ _ _ _ (omega (arith, c.requires.part.1, c.requires.table.1)) c.put_row-2.ensures c.requires.table.0 (rw (← c.kind_at-kind.ensures, ← c.is_expression.ensures) c.if-is_expression.false) c.statement_row-r.ensures c.flags_of-flags.ensures refl refl refl refl
