-- Document 01's table of runs.
use Rattle.std.specs.Prelude.{List, [], ◌∷◌, ◌++◌, ℕ, ℤ, pos, negsuc, replicate}
use Rattle.records.specs.Build.{header, function, wide, node, alone}
use Rattle.arith.specs.Int.{int}
use Rattle.spec_machine.specs.Machine as machine
use Rattle.spec_machine.specs.Run.{Outcome, raised}
use Rattle.spec_machine.specs.Run as run
use Rattle.spec_answers.specs.Answers.{Result, granted, denied, start_memory, run_answer}

-- an outcome with the steps taken, its int signed (`negsuc n` is −(n + 1)), or a refusal by number, place and item
pub data RowAnswer : Type 0 where
  value : ℤ → ℕ → RowAnswer
  arith abort Spent Full : ℕ → RowAnswer
  refused : ℕ → ℕ → ℕ → RowAnswer

-- an outcome after so many steps
abbrev pub after : Outcome → ℕ → RowAnswer
after (Outcome.value c) k = value (int c) k
after (raised machine.arith) k = arith k
after (raised machine.abort) k = abort k
after run.Spent k = Spent k
after run.Full k = Full k

-- what a run answers
abbrev pub row_answer : Result run.Ran → RowAnswer
row_answer (granted r) = after r.outcome r.steps
row_answer (denied question place item) = refused question place item

-- a file, an allowance, and what is answered
pub data TableRow : Type 0 where
  row : List ℕ → ℕ → RowAnswer → TableRow

abbrev pub expected : TableRow → RowAnswer
expected (row s a r) = r

-- the answer of a run from memory of zeros that a start was given before
abbrev pub answer_of_row : TableRow → RowAnswer
answer_of_row (row s a r) = row_answer (run_answer s (start_memory s (replicate 16384 0)) a)

-- the rows, each with the body of main; where document 01 gives no allowance it is enough
abbrev pub rows : List TableRow
rows =
    -- return 0
    row (alone 0 2 (node 0 0 0 1 ++ node 12 0 0 2)) 4 (value (pos 0) 4)
    ∷
    -- return 0, allowance 3
    row (alone 0 2 (node 0 0 0 1 ++ node 12 0 0 2)) 3 (Spent 3)
    ∷
    -- return ((4+5)×10)+2
    row (alone 0 8 (node 0 0 4 1 ++ node 0 0 5 1 ++ node 3 0 0 3 ++ node 0 0 10 1 ++ node 3 2 0 5 ++ node 0 0 2 1 ++ node 3 0 0 7 ++ node 12 0 0 8)) 10000 (value (pos 92) 13)
    ∷
    -- return 1/0
    row (alone 0 4 (node 0 0 1 1 ++ node 0 0 0 1 ++ node 3 3 0 3 ++ node 12 0 0 4)) 10000 (arith 5)
    ∷
    -- return −2^31 % −1
    row (alone 0 4 (wide 0 0 0 0 0 128 1 ++ wide 0 0 255 255 255 255 1 ++ node 3 4 0 3 ++ node 12 0 0 4)) 10000 (arith 5)
    ∷
    -- return 2147483647+1
    row (alone 0 4 (wide 0 0 255 255 255 127 1 ++ node 0 0 1 1 ++ node 3 0 0 3 ++ node 12 0 0 4)) 10000 (value (negsuc 2147483647) 7)
    ∷
    -- return −7/2
    row (alone 0 4 (wide 0 0 249 255 255 255 1 ++ node 0 0 2 1 ++ node 3 3 0 3 ++ node 12 0 0 4)) 10000 (value (negsuc 2) 7)
    ∷
    -- return −7%2
    row (alone 0 4 (wide 0 0 249 255 255 255 1 ++ node 0 0 2 1 ++ node 3 4 0 3 ++ node 12 0 0 4)) 10000 (value (negsuc 0) 7)
    ∷
    -- return 1<<33
    row (alone 0 4 (node 0 0 1 1 ++ node 0 0 33 1 ++ node 3 5 0 3 ++ node 12 0 0 4)) 10000 (value (pos 2) 7)
    ∷
    -- return −1>>1
    row (alone 0 4 (wide 0 0 255 255 255 255 1 ++ node 0 0 1 1 ++ node 3 6 0 3 ++ node 12 0 0 4)) 10000 (value (negsuc 0) 7)
    ∷
    -- seq(assert false, return 0)
    row (alone 0 5 (node 1 0 0 1 ++ node 13 0 0 2 ++ node 0 0 0 1 ++ node 12 0 0 2 ++ node 7 0 0 5)) 10000 (abort 4)
    ∷
    -- return f(), f: return f()
    row (header 2 4 ++ function 1 0 0 0 2 ++ function 1 0 0 0 2 ++ node 5 0 1 1 ++ node 12 0 0 2 ++ node 5 0 1 1 ++ node 12 0 0 2) 10000 (Full 28)
    ∷
    -- nop
    row (alone 0 1 (node 6 0 0 1)) 10000 (refused 14 1 0)
    ∷
    -- decl(0, int, return var 0)
    row (alone 1 3 (node 2 0 0 1 ++ node 12 0 0 2 ++ node 9 1 0 3)) 10000 (refused 13 2 0)
    ∷
    -- decl(0, int, seq(if(true, return 1, assign(0, 2)), return var 0))
    row (alone 1 10 (node 1 0 1 1 ++ node 0 0 1 1 ++ node 12 0 0 2 ++ node 0 0 2 1 ++ node 8 0 0 2 ++ node 10 0 0 6 ++ node 2 0 0 1 ++ node 12 0 0 2 ++ node 7 0 0 9 ++ node 9 1 0 10)) 10000 (value (pos 1) 8)
    ∷ []
