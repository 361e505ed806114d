-- A refusal by question 13 is of a read that the desk knows the way to.
use mathlib.Core.Path.{◌≡◌}
use mathlib.Core.List.{List}
use Prim.Native.Nat.{ℕ}
use native.Mathlib.Omega.{arith}
use Rattle.records.specs.Fields.{count_of}
use Rattle.records.specs.Parts.{start_of, part_of}
use Rattle.spec_language.specs.Nodes.{node_ok, size_ok, answers}
use Rattle.spec_language.specs.Check.{refused, check_of}
use Rattle.spec_language.proofs.Facts.{known}
use Rattle.spec_language.proofs.Accept.{all_pass, asked_none}
use Rattle.spec_language.proofs.Refusals.{LowestRecord, refused_is}
use Rattle.spec_language.proofs.Verdicts.{LacksIn, place_13}
use Rattle.desk_places.proofs.Refusals.{reads_inside}
use Rattle.desk_places.proofs.Variables.{lacks_variable}
use Rattle.desk_ways.specs.Ways.{KnownRead}

module _ (s : List ℕ) (p x : ℕ) (e : check_of s ≡ refused 13 p x) where
  -- the function and the node that the place is
  abbrev pub refused_read : LowestRecord s (start_of s) (LacksIn s) p
  refused_read = place_13 s p x e

  -- its part is as questions 4, 7 and 8 want it, and it reads a variable
  pub refused_known : KnownRead (part_of s refused_read.function) (count_of s refused_read.function) refused_read.node
  unfolding answers
  refused_known =
      let r = refused_is s 13 p x (omega arith) e in
      let f = refused_read.function in
      let l = refused_read.known in
      let t = part_of s f in
      let n = count_of s f in
      let seven = asked_none s 7 (r.asks.2 7 (omega arith) (omega arith)) f l in
      let eight = asked_none s 8 (r.asks.2 8 (omega arith) (omega arith)) f l in (
        known s f t n r.laid l (all_pass (node_ok s f t) n seven) (all_pass (size_ok t n) n eight),
        reads_inside s r.laid f l eight refused_read.node refused_read.fails,
        lacks_variable s f refused_read.node refused_read.fails,
      )
