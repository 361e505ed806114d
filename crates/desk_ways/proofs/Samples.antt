-- Worked parts: which way the definition names, by computation.
use mathlib.Core.Path.{◌≡◌, refl}
use mathlib.Core.List.{List, [], ◌∷◌, ◌++◌, map}
use Prim.Native.Nat.{ℕ}
use Rattle.varset.specs.Sets.{none, with, without, both, either, less, below}
use Rattle.records.specs.Bytes.{u16_at, u32_at}
use Rattle.records.specs.Fields.{kind_at, b_at, size_at}
use Rattle.records.specs.Build.{node}
use Rattle.spec_language.specs.Statements.{prior, last, shapes, shape_at, reads_from, reads_of, grow, statement_in, statement_at}
use Rattle.spec_language.specs.Flow.{declares, leaves}
use Rattle.spec_language.specs.Scopes.{declares_at, decl_of, under}
use Rattle.spec_language.specs.Nodes.{some}
use Rattle.desk_ways.specs.Ways.{in_tree, apart, on_way, gives, uneven, gap_at, or_earlier, last_gap, way_to}
use Rattle.desk_ways.specs.declared.Way.{Way}
use Rattle.desk_ways.specs.declared.Way.TheVariants.{Straight, First, Second, Loop}

-- a part, how many nodes it has, the node that reads, and the way
pub data Row : Type 0 where
  row : List ℕ → ℕ → ℕ → Way → Row

abbrev way_of : Row → Way
way_of (row t n i w) = way_to t n i

abbrev answer_of : Row → Way
answer_of (row t n i w) = w

-- x0 = 1
abbrev assign : List ℕ
assign = node 0 0 1 1 ++ node 8 0 0 2

abbrev rows : List Row
rows =
    -- if (true) x0 = 1; else nop; return x0
    row (node 1 0 1 1 ++ assign ++ node 6 0 0 1 ++ node 10 0 0 5 ++ node 2 0 0 1 ++ node 12 0 0 2 ++ node 7 0 0 8 ++ node 9 1 0 9) 9 5 (Second 4)
    ∷
    -- if (true) nop; else x0 = 1; return x0
    row (node 1 0 1 1 ++ node 6 0 0 1 ++ assign ++ node 10 0 0 5 ++ node 2 0 0 1 ++ node 12 0 0 2 ++ node 7 0 0 8 ++ node 9 1 0 9) 9 5 (First 4)
    ∷
    -- while (true) x0 = 1; return x0
    row (node 1 0 1 1 ++ assign ++ node 11 0 0 4 ++ node 2 0 0 1 ++ node 12 0 0 2 ++ node 7 0 0 7 ++ node 9 1 0 8) 8 4 (Loop 3)
    ∷
    -- nop; return x0
    row (node 6 0 0 1 ++ node 2 0 0 1 ++ node 12 0 0 2 ++ node 7 0 0 4 ++ node 9 1 0 5) 5 1 Straight
    ∷
    -- if (true) nop; else if (true) x0 = 1; else nop; return x0
    row (node 1 0 1 1 ++ node 6 0 0 1 ++ node 1 0 1 1 ++ assign ++ node 6 0 0 1 ++ node 10 0 0 5 ++ node 10 0 0 8 ++ node 2 0 0 1 ++ node 12 0 0 2 ++ node 7 0 0 11 ++ node 9 1 0 12) 12 8 (Second 6)
    ∷
    -- if (true) if (true) x0 = 1; else nop; else x0 = 1; return x0
    row (node 1 0 1 1 ++ node 1 0 1 1 ++ assign ++ node 6 0 0 1 ++ node 10 0 0 5 ++ assign ++ node 10 0 0 9 ++ node 2 0 0 1 ++ node 12 0 0 2 ++ node 7 0 0 12 ++ node 9 1 0 13) 13 9 (First 8)
    ∷
    -- if (true) x0 = 1; else nop; while (true) x0 = 1; return x0
    row (node 1 0 1 1 ++ assign ++ node 6 0 0 1 ++ node 10 0 0 5 ++ node 1 0 1 1 ++ assign ++ node 11 0 0 4 ++ node 7 0 0 10 ++ node 2 0 0 1 ++ node 12 0 0 2 ++ node 7 0 0 13 ++ node 9 1 0 14) 14 10 (Loop 8)
    ∷
    -- if (true) return 1; else nop; return x0
    row (node 1 0 1 1 ++ node 0 0 1 1 ++ node 12 0 0 2 ++ node 6 0 0 1 ++ node 10 0 0 5 ++ node 2 0 0 1 ++ node 12 0 0 2 ++ node 7 0 0 8 ++ node 9 1 0 9) 9 5 (Second 4)
    ∷
    -- while (true) return 1; return x0
    row (node 1 0 1 1 ++ node 0 0 1 1 ++ node 12 0 0 2 ++ node 11 0 0 4 ++ node 2 0 0 1 ++ node 12 0 0 2 ++ node 7 0 0 7 ++ node 9 1 0 8) 8 4 (Loop 3)
    ∷ []

right : map way_of rows ≡ map answer_of rows
unfolding none with without both either less below u16_at u32_at kind_at b_at size_at prior last shapes shape_at reads_from reads_of grow statement_in statement_at declares leaves declares_at decl_of under some in_tree apart on_way gives uneven gap_at or_earlier last_gap way_to
right = refl

-- if (true) if (true) x0 = 1; else nop; else assert(x0 < 1): the read is in one branch and the inner if in the other
kept_apart : way_to (node 1 0 1 1 ++ node 1 0 1 1 ++ assign ++ node 6 0 0 1 ++ node 10 0 0 5 ++ node 2 0 0 1 ++ node 0 0 1 1 ++ node 3 10 0 3 ++ node 13 0 0 4 ++ node 10 0 0 11 ++ node 9 1 0 12) 12 6 ≡ Straight
unfolding none with without both less u16_at u32_at kind_at b_at size_at prior last shapes shape_at reads_from reads_of grow statement_in statement_at declares leaves declares_at decl_of under some in_tree apart on_way gives uneven gap_at or_earlier last_gap way_to
kept_apart = refl
