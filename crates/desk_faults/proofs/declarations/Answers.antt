use Rattle.std.proofs.Common.{◌∙◌, arith, rules, tests}
use Rattle.std.proofs.lemmas.Iterator.{YieldsList-from_range}
use Rattle.std.proofs.lemmas.Iterator.Consumers.{YieldsList-from_filter, count_from_yields_List}
use Rattle.desk_faults.proofs.Tests.{declares_as, counted}
use Rattle.desk_faults.proofs.declarations.Goals as goal

pub returns : goal.returns
returns c =
    let n = c.args.n in
    let declares = declares_as c.args.part.now c.args.x in
    count_from_yields_List _ _ c.count.ensures.ran (YieldsList-from_filter _ declares (YieldsList-from_range 0 n n c.filter.ensures.source (omega arith)) c.filter.ensures.closure (λ x r q k. search (rules, tests)))
    ∙ counted c.args.part.now n c.args.x
