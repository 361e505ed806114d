use Rattle.std.proofs.Common.{refl, rules}
use Rattle.check_scopes.proofs.Decls.{decl_fits}
use Rattle.desk_ways.proofs.Gaps.{gap_next, gap_none_yet}
use Rattle.desk_ways.proofs.last_gap.Goals as goal

pub loop-k-init : goal.loop-k-init
loop-k-init c = gap_none_yet _ _ _ _

pub gap_on_way-requires-clause-told : goal.gap_on_way-requires-clause-told
gap_on_way-requires-clause-told c = (c.decl_table-decls.ensures _ (search rules), decl_fits _ c.decl_table-decls.result _ _ _ c.args.part.inside (search rules) c.decl_table-decls.ensures refl c.requires.1)

pub loop-k-preserved : goal.loop-k-preserved
loop-k-preserved c = gap_next _ _ _ _ _ _ _ _ c.gap_on_way.ensures c.or_earlier-way.ensures c.loop-k.invariant
