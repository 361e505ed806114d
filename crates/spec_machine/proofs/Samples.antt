-- Fit and unfit states of sample files, by computation.
use mathlib.Core.Path.{◌≡◌, refl}
use mathlib.Core.Bool.{Bool, true, false}
use mathlib.Core.List.{List, [], ◌∷◌, ◌++◌, map}
use mathlib.Core.Option as option
use Prim.Native.Nat.{ℕ}
use lib.ListN.{replicate}
use Rattle.varset.specs.Sets.{none, with, without, both, either, less, below}
use Rattle.records.specs.Bytes.{u16_at, u32_at}
use Rattle.records.specs.Fields.{functions, result_of, params_of, vars_of, mask_of, count_of, kind_at, a_at, b_at, size_at}
use Rattle.records.specs.Parts.{sum_of, start_of, part_of}
use Rattle.records.specs.Search.{or_else}
use Rattle.spec_language.specs.Statements.{prior, last, shapes, shape_at, reads_from, reads_of, grow, statement_in, statement_at}
use Rattle.spec_language.specs.Flow.{declares, leaves, missing, lacks, returns}
use Rattle.spec_language.specs.Scopes.{declares_at, decl_of}
use Rattle.spec_language.specs.Types.{param_type, var_type}
use Rattle.spec_machine.specs.File.{looks, look_at, form_of, form_at, if_form, seq_form, see_at, unrolled, looped, stmt_at, types_from, fun_of, program_of}
use Rattle.spec_machine.specs.Values.{Value, nothing, int, truth}
use Rattle.spec_machine.specs.Program.{op, fn, Ref, if_of, seq_of}
use Rattle.spec_machine.specs.Machine.{arith, abort, Frame, gather, and, wait, branch, check, Control, val, eval, exec, saved, empty_env, State, exception, calling, main_call, returned, running}
use Rattle.spec_machine.specs.Test.{fit}
use Rattle.spec_machine.proofs.SampleFiles.{sample, branches, stale}

-- a file, a state, and whether it is fit
pub data Row : Type 0 where
  row : List ℕ → State → Bool → Row

abbrev file_of : Row → List ℕ
file_of (row s t b) = s

abbrev state_of : Row → State
state_of (row s t b) = t

abbrev verdict_of : Row → Bool
verdict_of (row s t b) = b

abbrev fits : State → Row
fits t = row sample t true

abbrev unfit : State → Row
unfit t = row sample t false

-- control, variables and frames of main alone, and of a function that main called
abbrev main_at : Control → List Value → List Frame → State
main_at c η K = running c empty_env 0 η K []

abbrev called : ℕ → Control → List Value → List Frame → List Frame → State
called g c η K L = running c empty_env g η K (saved 0 (nothing ∷ nothing ∷ []) L ∷ [])

abbrev runs : ℕ → Control
runs n = exec (Ref.node n)

abbrev after : ℕ → Frame
after n = wait (Ref.node n)

abbrev right : ℕ → ℕ → Frame
right o n = gather (op o) [] (n ∷ [])

-- frames: return(_), assert(_) over a return, discard over a return
abbrev leaving : List Frame
leaving = Frame.leave ∷ []

abbrev checking : List Frame
checking = check ∷ after 9 ∷ []

abbrev discarding : List Frame
discarding = Frame.discard ∷ after 9 ∷ []

-- variables: two that hold nothing, three that do, an int alone, an int and a bool
abbrev empty : List Value
empty = nothing ∷ nothing ∷ []

abbrev blanks : List Value
blanks = nothing ∷ empty

abbrev half : List Value
half = int 1 ∷ nothing ∷ []

abbrev ready : List Value
ready = int 1 ∷ truth true ∷ []

-- main, called by itself `callers` times, with `nops` nops before a return
abbrev nested : ℕ → ℕ → State
nested callers nops = running (exec Ref.nop) empty_env 0 empty (replicate nops (wait Ref.nop) ++ (after 9 ∷ [])) (replicate callers (saved 0 empty leaving))

-- final states, the start and the end are fit; a word is below 2 ^ 32
abbrev ends : List Row
ends =
    fits (State.value 0) ∷ fits (State.value 4294967295) ∷ unfit (State.value 4294967296) ∷ fits (exception arith) ∷ fits (exception abort) ∷
    fits main_call ∷ fits (returned empty_env 4294967295) ∷ unfit (returned empty_env 4294967296) ∷
    -- main takes no argument, and a run is started with main
    unfit (calling empty_env (option.some 3)) ∷ unfit (calling (record { entry = 1 }) option.none) ∷ unfit (returned (record { entry = 2 }) 4) ∷ unfit (running (runs 3) (record { entry = 2 }) 2 (int 5 ∷ []) [] []) ∷
    -- a value or an expression over no frame
    unfit (main_at (val (int 5)) empty []) ∷ unfit (main_at (val (truth true)) empty []) ∷ unfit (main_at (val nothing) empty []) ∷ unfit (main_at (eval 20) ready []) ∷
    []

-- main alone stands over the empty caller, every activation has its own nodes, and what is held has its type
abbrev activations : List Row
activations =
    -- the bodies of main and, called, of the others
    fits (main_at (runs 27) empty []) ∷ fits (called 2 (runs 3) (int 5 ∷ []) [] leaving) ∷
    -- function 2 over the empty caller
    unfit (running (runs 3) empty_env 2 (int 5 ∷ []) [] []) ∷
    -- no such function
    unfit (running (val (int 5)) empty_env 6 [] leaving (saved 0 ready leaving ∷ [])) ∷
    -- a saved caller without frames
    unfit (called 2 (runs 3) (int 5 ∷ []) [] []) ∷
    -- main calls main
    fits (called 0 (runs 27) empty [] leaving) ∷
    -- 5 ▷ return(_) names no node: its function decides
    fits (main_at (val (int 5)) empty leaving) ∷ fits (called 2 (val (int 5)) (nothing ∷ []) leaving leaving) ∷
    unfit (called 3 (val (int 5)) (nothing ∷ []) leaving leaving) ∷ fits (called 3 (val (truth true)) (nothing ∷ []) leaving checking) ∷
    -- nodes that the function does not have
    unfit (main_at (runs 28) empty []) ∷ unfit (main_at (eval 4294967295) empty leaving) ∷
    unfit (main_at (exec Ref.nop) empty (after 28 ∷ after 9 ∷ [])) ∷ unfit (main_at (val (int 5)) empty (right 0 28 ∷ leaving)) ∷
    unfit (main_at (val (int 5)) ready (gather (fn 1) [] (28 ∷ []) ∷ discarding)) ∷ unfit (main_at (val (truth true)) empty (branch (Ref.node 9) (Ref.node 28) ∷ [])) ∷
    -- any function may be called, and no other
    fits (called 1 (val (int 5)) blanks (gather (fn 2) [] [] ∷ Frame.discard ∷ after 7 ∷ []) discarding) ∷
    unfit (called 1 (val (int 5)) blanks (gather (fn 6) [] [] ∷ Frame.discard ∷ after 7 ∷ []) discarding) ∷
    -- a parameter may hold nothing, and a variable out of scope a value
    fits (called 1 (runs 7) (nothing ∷ truth true ∷ nothing ∷ []) [] discarding) ∷ fits (called 5 (runs 11) (int 5 ∷ []) [] leaving) ∷
    -- values of another type, too few variables and too many
    unfit (main_at (runs 9) (truth true ∷ nothing ∷ []) []) ∷ unfit (main_at (runs 9) (nothing ∷ int 5 ∷ []) []) ∷
    unfit (main_at (runs 9) (nothing ∷ []) []) ∷ unfit (main_at (runs 9) blanks []) ∷ unfit (called 2 (runs 3) (truth true ∷ []) [] leaving) ∷
    -- ints past a word
    unfit (main_at (runs 9) (int 4294967296 ∷ nothing ∷ []) []) ∷ unfit (main_at (val (int 4294967296)) empty leaving) ∷
    unfit (main_at (val (int 5)) empty (gather (op 0) (int 4294967296 ∷ []) [] ∷ leaving)) ∷
    []

-- the control: a constant is a value, a nop one and the same, and a while has three forms
abbrev controls : List Row
controls =
    -- constants by their nodes
    unfit (main_at (eval 8) empty leaving) ∷ unfit (main_at (eval 5) empty checking) ∷ unfit (called 1 (eval 6) blanks leaving discarding) ∷
    -- an expression in its place, and in none
    fits (main_at (eval 20) half leaving) ∷ unfit (main_at (eval 20) empty leaving) ∷ unfit (main_at (eval 20) half checking) ∷
    unfit (main_at (eval 21) half leaving) ∷ unfit (main_at (runs 20) half []) ∷
    -- a call that gives nothing
    fits (main_at (eval 16) ready discarding) ∷ unfit (main_at (eval 16) ready leaving) ∷
    -- nop, and a nop by its node
    fits (main_at (exec Ref.nop) empty (after 9 ∷ [])) ∷ unfit (main_at (runs 10) empty (after 9 ∷ [])) ∷
    fits (main_at (exec Ref.nop) empty (wait Ref.nop ∷ after 9 ∷ [])) ∷ unfit (main_at (exec Ref.nop) empty (after 10 ∷ after 9 ∷ [])) ∷
    fits (main_at (val (truth true)) empty (branch Ref.nop Ref.nop ∷ after 9 ∷ [])) ∷ fits (main_at (val (truth true)) empty (branch (Ref.node 9) Ref.nop ∷ after 9 ∷ [])) ∷
    unfit (main_at (val (truth true)) empty (branch (Ref.node 9) (Ref.node 10) ∷ after 9 ∷ [])) ∷
    -- the three forms of a while, and of no while
    fits (main_at (runs 13) ready (after 22 ∷ [])) ∷ fits (main_at (exec (if_of 13)) ready (after 22 ∷ [])) ∷
    fits (main_at (exec (seq_of 13)) ready (after 22 ∷ [])) ∷ unfit (main_at (exec (if_of 12)) ready (after 22 ∷ [])) ∷ unfit (main_at (exec (seq_of 12)) ready (after 22 ∷ [])) ∷
    []

-- each frame wants its values and gives its own
abbrev frames : List Row
frames =
    -- _ ⊙ e, for a constant that waits and for an int of another place
    fits (main_at (val (int 5)) empty (right 0 19 ∷ leaving)) ∷ fits (main_at (val (int 5)) empty (right 2 8 ∷ leaving)) ∷
    unfit (main_at (val (truth true)) empty (right 0 19 ∷ leaving)) ∷ unfit (main_at (val nothing) empty (right 0 19 ∷ leaving)) ∷
    unfit (main_at (val (int 5)) (nothing ∷ truth true ∷ []) (right 0 7 ∷ leaving)) ∷ unfit (main_at (val (int 5)) empty (right 0 9 ∷ leaving)) ∷
    -- a test gives bool
    fits (main_at (val (int 5)) empty (right 10 19 ∷ checking)) ∷ unfit (main_at (val (int 5)) empty (right 10 19 ∷ leaving)) ∷
    unfit (main_at (val (int 5)) empty (right 9 19 ∷ checking)) ∷
    -- c ⊙ _
    fits (main_at (val (int 5)) empty (gather (op 1) (int 3 ∷ []) [] ∷ leaving)) ∷ unfit (main_at (val (truth true)) empty (gather (op 1) (int 3 ∷ []) [] ∷ leaving)) ∷
    unfit (main_at (val (int 5)) empty (gather (op 16) (int 3 ∷ []) [] ∷ leaving)) ∷ unfit (main_at (val (int 5)) empty (gather (op 16) (int 3 ∷ []) [] ∷ checking)) ∷
    unfit (main_at (val (int 5)) empty (gather (op 1) (truth true ∷ []) [] ∷ leaving)) ∷
    -- _ && e
    fits (main_at (val (truth true)) (nothing ∷ truth true ∷ []) (and 7 ∷ checking)) ∷ unfit (main_at (val (int 5)) (nothing ∷ truth true ∷ []) (and 7 ∷ checking)) ∷
    unfit (main_at (val (truth true)) (nothing ∷ truth true ∷ []) (and 8 ∷ checking)) ∷ unfit (main_at (val (truth true)) (nothing ∷ truth true ∷ []) (and 7 ∷ leaving)) ∷
    -- a call, with as many as it takes and of their types
    fits (main_at (val (int 5)) (nothing ∷ truth true ∷ []) (gather (fn 1) [] (7 ∷ []) ∷ discarding)) ∷
    fits (main_at (val (truth true)) (nothing ∷ truth true ∷ []) (gather (fn 1) (int 5 ∷ []) [] ∷ discarding)) ∷
    unfit (main_at (val (int 5)) (nothing ∷ truth true ∷ []) (gather (fn 1) [] [] ∷ discarding)) ∷
    unfit (main_at (val (int 5)) (nothing ∷ truth true ∷ []) (gather (fn 1) [] (7 ∷ 8 ∷ []) ∷ discarding)) ∷
    unfit (main_at (val (truth true)) (nothing ∷ truth true ∷ []) (gather (fn 1) [] (7 ∷ []) ∷ discarding)) ∷
    unfit (main_at (val (truth true)) (nothing ∷ truth true ∷ []) (gather (fn 1) (truth true ∷ []) [] ∷ discarding)) ∷
    unfit (main_at (val (int 5)) (nothing ∷ truth true ∷ []) (gather (fn 1) [] (8 ∷ []) ∷ discarding)) ∷ unfit (main_at (val (int 5)) empty (gather (fn 4) [] [] ∷ leaving)) ∷
    unfit (main_at (val (truth true)) (nothing ∷ truth true ∷ []) (gather (fn 1) (int 5 ∷ []) [] ∷ leaving)) ∷
    -- assign(x, _)
    fits (main_at (val (int 5)) empty (Frame.store 0 ∷ after 9 ∷ [])) ∷ unfit (main_at (val (truth true)) empty (Frame.store 0 ∷ after 9 ∷ [])) ∷
    unfit (main_at (val nothing) empty (Frame.store 0 ∷ after 9 ∷ [])) ∷ unfit (main_at (val nothing) empty (Frame.store 2 ∷ after 9 ∷ [])) ∷
    -- if(_, s, t), the statements of different ifs
    fits (main_at (val (truth true)) half (branch (Ref.node 9) (Ref.node 21) ∷ [])) ∷ unfit (main_at (val (int 1)) half (branch (Ref.node 9) (Ref.node 21) ∷ [])) ∷
    -- return(_) and assert(_)
    unfit (main_at (val (truth true)) empty leaving) ∷ unfit (main_at (val nothing) empty leaving) ∷
    fits (main_at (val (truth true)) empty checking) ∷ unfit (main_at (val (int 5)) empty checking) ∷
    -- discard takes any value
    fits (main_at (val (int 5)) empty discarding) ∷ fits (main_at (val (truth true)) empty discarding) ∷ fits (main_at (val nothing) empty discarding) ∷
    -- under a frame that gives none only statements wait
    unfit (main_at (val (int 5)) empty (Frame.store 0 ∷ leaving)) ∷ unfit (main_at (val (int 5)) empty (Frame.discard ∷ leaving)) ∷
    unfit (main_at (runs 9) empty leaving) ∷ fits (main_at (val (int 5)) empty (Frame.leave ∷ after 9 ∷ [])) ∷
    -- no value over a waiting statement, nothing neither
    unfit (main_at (val (int 5)) empty (after 9 ∷ [])) ∷ unfit (main_at (val nothing) empty (after 9 ∷ [])) ∷
    -- nothing over the return of a function that gives nothing
    fits (called 1 (val nothing) blanks leaving discarding) ∷
    []

-- each saved caller wants its callee's result
abbrev callers : List Row
callers =
    unfit (called 2 (runs 3) (int 5 ∷ []) [] checking) ∷ fits (called 3 (runs 3) (int 5 ∷ []) [] checking) ∷
    unfit (called 3 (runs 3) (int 5 ∷ []) [] leaving) ∷ unfit (called 1 (runs 7) blanks [] (Frame.store 0 ∷ after 9 ∷ [])) ∷ unfit (called 1 (runs 7) blanks [] (after 9 ∷ [])) ∷
    -- a return of a function that gives nothing over such a callee
    fits (running (runs 7) empty_env 1 blanks [] (saved 1 blanks leaving ∷ saved 0 empty discarding ∷ [])) ∷
    -- a caller whose frames do not return
    unfit (called 2 (runs 3) (int 5 ∷ []) [] (Frame.discard ∷ [])) ∷
    -- a caller reads from its own variables
    fits (running (runs 3) empty_env 2 (int 5 ∷ []) [] (saved 0 half (right 0 18 ∷ leaving) ∷ [])) ∷
    unfit (running (runs 3) empty_env 2 (int 5 ∷ []) [] (saved 0 (nothing ∷ truth true ∷ []) (right 0 18 ∷ leaving) ∷ [])) ∷
    -- what is under a caller's return(_) has every value, but for a decl's variable
    fits (called 2 (runs 3) (int 5 ∷ []) [] (Frame.leave ∷ after 21 ∷ [])) ∷
    unfit (running (runs 3) empty_env 2 (int 5 ∷ []) [] (saved 5 (nothing ∷ []) (Frame.leave ∷ after 8 ∷ after 6 ∷ []) ∷ saved 0 empty leaving ∷ [])) ∷
    []

-- which variables have values, through control and frames
abbrev flow : List Row
flow =
    -- a return counts as giving every variable a value: return(_), a return at hand, and one that waits
    fits (main_at (val (int 5)) empty (Frame.leave ∷ after 21 ∷ [])) ∷ fits (main_at (val (int 5)) half (Frame.leave ∷ after 21 ∷ [])) ∷
    fits (called 5 (val (int 6)) (nothing ∷ []) (Frame.leave ∷ after 6 ∷ []) leaving) ∷
    fits (called 5 (runs 11) (nothing ∷ []) (after 6 ∷ []) leaving) ∷ fits (called 5 (exec Ref.nop) (nothing ∷ []) (after 11 ∷ after 6 ∷ []) leaving) ∷
    -- in one branch, where the other assigns, and where it does not
    fits (main_at (val (truth true)) empty (branch (Ref.node 9) (Ref.node 1) ∷ after 21 ∷ [])) ∷
    unfit (main_at (val (truth true)) empty (branch (Ref.node 9) Ref.nop ∷ after 21 ∷ [])) ∷
    -- what it reads is judged from what was there
    unfit (main_at (runs 21) empty (after 9 ∷ [])) ∷ unfit (main_at (exec Ref.nop) empty (after 21 ∷ after 9 ∷ [])) ∷
    -- what is under return(_) is judged: a decl takes its variable away again, and so does a loop
    unfit (called 5 (val (int 6)) (nothing ∷ []) (Frame.leave ∷ after 8 ∷ after 6 ∷ []) leaving) ∷
    unfit (called 5 (val (int 6)) (int 5 ∷ []) (Frame.leave ∷ after 9 ∷ after 6 ∷ []) leaving) ∷
    -- a decl takes its variable away after, and so does a loop
    unfit (called 5 (runs 8) (int 5 ∷ []) (after 6 ∷ after 11 ∷ []) leaving) ∷ fits (called 5 (runs 7) (nothing ∷ []) (after 6 ∷ after 11 ∷ []) leaving) ∷
    unfit (called 5 (runs 9) (int 5 ∷ []) (after 6 ∷ after 11 ∷ []) leaving) ∷ fits (called 5 (exec Ref.nop) (int 5 ∷ []) (after 6 ∷ after 11 ∷ []) leaving) ∷
    -- operands that wait
    fits (main_at (val (int 5)) half (right 0 18 ∷ leaving)) ∷ unfit (main_at (val (int 5)) empty (right 0 18 ∷ leaving)) ∷
    unfit (main_at (val (truth true)) half (and 7 ∷ checking)) ∷ unfit (main_at (val (int 5)) half (gather (fn 1) [] (7 ∷ []) ∷ discarding)) ∷
    -- assign(x, _) adds x, and if(_, s, t) what both leave
    fits (main_at (val (int 5)) empty (Frame.store 0 ∷ after 21 ∷ [])) ∷ fits (main_at (val (truth true)) empty (branch (Ref.node 1) (Ref.node 1) ∷ after 21 ∷ [])) ∷
    unfit (main_at (val (truth true)) empty (branch (Ref.node 1) Ref.nop ∷ after 21 ∷ [])) ∷ unfit (main_at (val (truth true)) empty (branch (Ref.node 9) (Ref.node 21) ∷ [])) ∷
    -- the if of a while reads as the while does, its seq goes through the body first
    unfit (main_at (runs 13) half (after 22 ∷ [])) ∷ unfit (main_at (exec (if_of 13)) half (after 22 ∷ [])) ∷ fits (main_at (exec (seq_of 13)) half (after 22 ∷ [])) ∷
    -- a seq of a while may wait
    fits (main_at (exec Ref.nop) ready (wait (seq_of 13) ∷ after 9 ∷ [])) ∷
    []

-- in each activation something still to come returns
abbrev returning : List Row
returning =
    fits (called 4 (exec (seq_of 10)) (nothing ∷ []) [] leaving) ∷ unfit (called 4 (exec (if_of 10)) (nothing ∷ []) [] leaving) ∷
    unfit (called 4 (runs 10) (nothing ∷ []) [] leaving) ∷ unfit (called 4 (val (truth true)) (nothing ∷ []) (branch (seq_of 10) Ref.nop ∷ []) leaving) ∷
    fits (called 4 (val (truth true)) (nothing ∷ []) (branch (seq_of 10) (Ref.node 12) ∷ []) leaving) ∷
    -- it can only loop for ever
    unfit (called 4 (exec Ref.nop) (nothing ∷ []) (after 10 ∷ []) leaving) ∷
    fits (called 4 (exec Ref.nop) (nothing ∷ []) (after 10 ∷ after 12 ∷ []) leaving) ∷ unfit (main_at (exec Ref.nop) empty []) ∷
    []

-- 13 and 14 callers, main's empty one among them, are fit, and 15, 32 and 33 are not; 512 frames are fit, over one activation or
-- over fourteen, and 513 are not; 512 frames over fifteen activations are not
abbrev limits : List Row
limits =
    fits (nested 12 0) ∷ fits (nested 13 0) ∷ unfit (nested 14 0) ∷ unfit (nested 31 0) ∷ unfit (nested 32 0) ∷
    fits (nested 0 511) ∷ unfit (nested 0 512) ∷ fits (nested 13 498) ∷ unfit (nested 13 499) ∷ unfit (nested 14 497) ∷
    []

-- two more files
abbrev others : List Row
others =
    -- 1 ▷ return(_), from either branch
    row branches (main_at (val (int 1)) (truth true ∷ []) leaving) true ∷
    -- a loop that declares what it reads, against question 11: its if is unfit
    row stale (main_at (runs 8) (int 5 ∷ []) (after 10 ∷ [])) true ∷ row stale (main_at (exec (if_of 8)) (int 5 ∷ []) (after 10 ∷ [])) false ∷
    []

-- the states are fit, or not, as their rows say
abbrev Right : List Row → Type 0
Right rows = map (λ r. fit (program_of (file_of r)) (state_of r)) rows ≡ map verdict_of rows

record Samples : Type 0 where
  right_ends : Right ends
  right_activations : Right activations
  right_controls : Right controls
  right_frames : Right frames
  right_callers : Right callers
  right_flow : Right flow
  right_returning : Right returning
  right_limits : Right limits
  right_others : Right others

-- all rows
samples : Samples
unfolding none with without both either less below u16_at u32_at functions result_of params_of vars_of mask_of count_of kind_at a_at b_at size_at sum_of start_of part_of or_else prior last shapes shape_at reads_from reads_of grow statement_in statement_at declares leaves missing lacks returns declares_at decl_of param_type var_type looks look_at form_of form_at if_form seq_form see_at unrolled looped stmt_at types_from fun_of program_of
samples =
    record {
      right_ends = refl;
      right_activations = refl;
      right_controls = refl;
      right_frames = refl;
      right_callers = refl;
      right_flow = refl;
      right_returning = refl;
      right_limits = refl;
      right_others = refl;
    }
