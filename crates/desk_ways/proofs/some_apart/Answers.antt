use Rattle.std.proofs.Common.{◌∙◌, refl, arith, rules, tests}
use Rattle.std.proofs.lemmas.Iterator.{YieldsList-from_range}
use Rattle.std.proofs.lemmas.Iterator.Search.{any_from_yields_List}
use Rattle.desk_ways.specs.Ways.{apart}
use Rattle.desk_ways.proofs.Searches.{some_of}
use Rattle.desk_ways.proofs.some_apart.Goals as goal

pub returns : goal.returns
returns c =
    let p = apart c.args.part.bytes.now c.args.k c.args.i in
    any_from_yields_List p _ _ c.any.result c.any.ensures.ran (YieldsList-from_range 0 c.args.part.n c.args.part.n refl (omega arith)) (λ x b q k. search (rules, tests))
    ∙ some_of p c.args.part.n
