use Rattle.std.proofs.Common.{◌≡◌, ◌∙◌, sym, refl, arith, rules, tests, zero-add}
use Rattle.std.specs.List.{list_all, range_with_len}
use Rattle.std.proofs.iter.runs.Sources.{ranges}
use Rattle.std.proofs.lemmas.Iterator.{YieldsList-from_range}
use Rattle.std.proofs.lemmas.Iterator.Search.{all_from_yields_List}
use Rattle.desk_ways.specs.KnownNode.{known_node}
use Rattle.desk_ways.proofs.Searches.{each_passes}
use Rattle.desk_ways.proofs.KnownTests.{tests_known, failing_test}
use Rattle.desk_ways.proofs.known.known_part.Goals as goal

pub invariant_of-result : goal.invariant_of-result
invariant_of-result c =
    let p = known_node c.args.part.now in
    let all : c.all.result ≡ list_all p (range_with_len 0 c.args.n) =
    all_from_yields_List p _ _ c.all.result c.all.ensures.ran (YieldsList-from_range 0 c.args.n c.args.n refl (omega arith)) (λ x b q k. search (rules, tests)) in
    record { inside = search rules; known = tests_known _ _ (λ k h. rw (zero-add k) at (each_passes p 0 c.args.n (sym all ∙ c.if-all.true) k h)) }

pub returns-else-all-clause-known : goal.returns-else-all-clause-known
returns-else-all-clause-known c = failing_test c.args.part.now c.args.n (search (rules, ranges))
