-- Records, logged runs and steps back of sample files, by computation.
use mathlib.Core.Path.{◌≡◌, refl}
use mathlib.Core.Bool.{Bool, true, false}
use mathlib.Core.List.{List, [], ◌∷◌, ◌++◌, map}
use Prim.Native.Nat.{ℕ}
use lib.ListN.{length, take, replicate}
use Rattle.varset.specs.Sets.{with, without, both, either, less, below}
use Rattle.varset.specs.Sets as sets
use Rattle.records.specs.Bytes.{u16_at, u32_at}
use Rattle.records.specs.Fields.{functions, result_of, params_of, vars_of, mask_of, count_of, kind_at, a_at, b_at, size_at}
use Rattle.records.specs.Parts.{sum_of, start_of, part_of}
use Rattle.records.specs.Search.{or_else}
use Rattle.records.specs.Build.{alone}
use Rattle.records.specs.Build as build
use Rattle.spec_language.specs.Statements.{prior, last, shapes, shape_at, reads_from, reads_of, grow, statement_in, statement_at}
use Rattle.spec_language.specs.Flow.{declares, leaves, missing, lacks, returns}
use Rattle.spec_language.specs.Scopes.{declares_at, decl_of}
use Rattle.spec_language.specs.Types.{param_type, var_type}
use Rattle.spec_machine.specs.Values.{Value, nothing, int, truth}
use Rattle.spec_machine.specs.Program.{fn, node}
use Rattle.spec_machine.specs.Machine.{abort, Frame, gather, wait, check, Control, val, exec, saved, empty_env, State, exception, main_call, returned, running}
use Rattle.spec_machine.specs.Run.{Outcome, Spent, Full, run_of}
use Rattle.spec_machine.specs.File.{backwards, kids, and_form, looks, look_at, ref_at, form_of, form_at, see_at, stmt_at, types_from, fun_of, program_of}
use Rattle.spec_machine.proofs.SampleFiles.{sample}
use Rattle.spec_image.specs.Layout.{filled, bit, value_words, values_words, nodes_words, ref_word, block, gathering, frame_words, control_words, activation_words, env_words}
use Rattle.spec_image.specs.Image.{saved_activations, saved_frames, head_words, activations_of, frames_of, env_part, image}
use Rattle.spec_image.specs.Decode.{value_of, values_of, nodes_of, ref_of, operands, frames, frame_of, control_of, activation_of, frames_held, callers_of, running_of, activations_in, frames_in, env_of, states, state_of}
use Rattle.spec_image.specs.Memory.{fit_words}
use Rattle.spec_log.specs.Changes.{Change, change}
use Rattle.spec_log.specs.Records.{two, four, mark, bytes_of, change_bytes, word_bytes, record_of, changes_at, words_at, last_number, last_bytes, has_record, earlier}
use Rattle.spec_log.specs.Logged.{ends, LogFull, Logged, still, log_of}
use Rattle.spec_log.specs.Answers.{leads_to, words_before, back_to}

-- the record of some changes
abbrev pub record_with : List Change → List ℕ
record_with cs = mark ++ (change_bytes cs ++ two (length cs))

-- return#1(0#0), its state after the first step, and the record of that step
abbrev file : List ℕ
file = alone 0 2 (build.node 0 0 0 1 ++ build.node 12 0 0 2)

abbrev entered : State
entered = running (exec (node 1)) empty_env 0 [] [] []

abbrev first_step : List ℕ
first_step = 66 ∷ 75 ∷ 0 ∷ 0 ∷ 1 ∷ 0 ∷ 0 ∷ 0 ∷ 2 ∷ 0 ∷ 0 ∷ 0 ∷ 0 ∷ 0 ∷ 3 ∷ 0 ∷ 0 ∷ 0 ∷ 0 ∷ 0 ∷ 4 ∷ 0 ∷ 0 ∷ 0 ∷ 0 ∷ 0 ∷ 4 ∷ 0 ∷ []

-- changes at places in no order, one of them twice, and at two places past eight words
abbrev any_places : List ℕ
any_places = record_with (change 4 9 ∷ change 8 5 ∷ change 7 6 ∷ change 0 4294967295 ∷ change 65535 5 ∷ change 4 8 ∷ [])

record Records : Type 0 where
  -- a step, and the words before it from its record after another byte
  first : record_of (image main_call) (image entered) ≡ first_step
  back : earlier (7 ∷ first_step) 29 (image entered) ≡ image main_call
  -- the last change at a place holds, and places past the words are passed over
  places : earlier any_places 40 (replicate 8 3) ≡ 4294967295 ∷ 3 ∷ 3 ∷ 3 ∷ 8 ∷ 3 ∷ 3 ∷ 6 ∷ []
  -- all words, of four bytes, where there are more than 10,922 changes
  many : length (record_of (replicate 10923 1) (replicate 10923 0)) ≡ 43696
  words : words_at (mark ++ (four 7 ++ (four 4294967295 ++ two 65535))) 2 2 ≡ 7 ∷ 4294967295 ∷ []
  -- bytes by the number
  lengths : map bytes_of (0 ∷ 4 ∷ 10922 ∷ 10923 ∷ 65534 ∷ 65535 ∷ []) ≡ 4 ∷ 28 ∷ 65536 ∷ 65542 ∷ 393208 ∷ 65540 ∷ []
  -- used lengths with less than a record, above the log's, and one at which a place is read as the number 0
  used : map (has_record first_step) (28 ∷ 29 ∷ 27 ∷ 4 ∷ 3 ∷ 2 ∷ 1 ∷ 0 ∷ []) ≡ true ∷ false ∷ false ∷ true ∷ replicate 4 false
  zeros : map (has_record (replicate 9 0)) (0 ∷ 1 ∷ 2 ∷ 3 ∷ 4 ∷ 9 ∷ []) ≡ replicate 6 false
  none : map (has_record []) (0 ∷ 1 ∷ 4 ∷ 18446744073709551615 ∷ []) ≡ replicate 4 false

records : Records
unfolding u16_at u32_at filled bit value_words values_words nodes_words ref_word block gathering frame_words control_words activation_words env_words saved_activations saved_frames head_words activations_of frames_of env_part image bytes_of change_bytes word_bytes record_of changes_at words_at last_number last_bytes has_record earlier
records =
    record {
      first = refl;
      back = refl;
      places = refl;
      many = refl;
      words = refl;
      lengths = refl;
      used = refl;
      zeros = refl;
      none = refl;
    }

-- the file's logged run in a log of so many ones, and the records of its four steps
abbrev logged : ℕ → ℕ → Logged
logged bytes used = log_of (program_of file) 9 main_call (replicate bytes 1) used

abbrev four_steps : List ℕ
four_steps =
    first_step
    ++ (record_with (change 3 5 ∷ change 4 4 ∷ change 129 0 ∷ change 4480 0 ∷ [])
    ++ (record_with (change 0 2 ∷ change 2 1 ∷ change 3 2 ∷ change 129 1 ∷ change 4480 7 ∷ []) ++ record_with (change 0 3 ∷ [])))

-- states of the sample file: a call that would save the fifteenth caller, an assert of false, and a decl with a statement after it that reads its variable
abbrev blank : List Value
blank = nothing ∷ nothing ∷ []

abbrev calling : State
calling = running (val (truth true)) empty_env 0 blank (gather (fn 1) (int 5 ∷ []) [] ∷ Frame.discard ∷ wait (node 9) ∷ []) (replicate 13 (saved 0 blank (Frame.leave ∷ [])))

abbrev asserting : List Value → State
asserting η = running (val (truth false)) empty_env 0 η (check ∷ wait (node 9) ∷ []) []

abbrev declaring : Control → Value → State
declaring c v = running c empty_env 5 (v ∷ []) (wait (node 6) ∷ wait (node 11) ∷ []) (saved 0 blank (Frame.leave ∷ []) ∷ [])

-- whether a step back leads from a state to one before it by the record of the two
abbrev leads_back : State → State → Bool
leads_back after before =
    let r = record_of (image before) (image after) in
    back_to (program_of sample) (image after) r (length r)

record Steps : Type 0 where
  -- a log with room for all records, with one byte too few for the last and for the first, and a used length above the log's
  all : logged 107 7 ≡ record { stop = ends (Outcome.value 0); steps = 4; state = State.value 0; log = replicate 7 1 ++ four_steps; used = 107 }
  three : logged 106 7 ≡ record { stop = LogFull; steps = 3; state = returned empty_env 0; log = replicate 7 1 ++ (take 90 four_steps ++ replicate 9 1); used = 97 }
  no_step : map (logged 34) (7 ∷ 18446744073709551615 ∷ []) ≡ map (still LogFull main_call (replicate 34 1)) (7 ∷ 18446744073709551615 ∷ [])
  -- in a full log a final state is answered, Spent comes before Full, and Full before Log full
  final : log_of (program_of sample) 9 (State.value 7) [] 3 ≡ still (ends (Outcome.value 7)) (State.value 7) [] 3
  limits : map (λ a. log_of (program_of sample) a calling [] 0) (0 ∷ 1 ∷ []) ≡ still (ends Spent) calling [] 0 ∷ still (ends Full) calling [] 0 ∷ []
  -- back from a value to its return, and not to itself
  values : map (leads_back (State.value 2)) (returned empty_env 2 ∷ State.value 2 ∷ []) ≡ true ∷ false ∷ []
  -- no state leads to main()
  start : leads_back main_call main_call ≡ false
  -- to an exception a fit state that raises it, with any values
  raised : leads_back (exception abort) (asserting (int 1 ∷ truth true ∷ [])) ≡ true
  -- one step of an unfit state leads here
  unfit : (leads_to (program_of sample) (declaring (exec (node 8)) (int 5)) (image (declaring (exec (node 7)) nothing)) ≡ true)
      × (leads_back (declaring (exec (node 7)) nothing) (declaring (exec (node 8)) (int 5)) ≡ false)
  -- a whole record whose words are no image
  no_image : (has_record (record_with (change 0 9 ∷ [])) 10 ≡ true) × (back_to (program_of sample) (image (State.value 2)) (record_with (change 0 9 ∷ [])) 10 ≡ false)

steps : Steps
unfolding sets.none with without both either less below u16_at u32_at functions result_of params_of vars_of mask_of count_of kind_at a_at b_at size_at sum_of start_of part_of or_else prior last shapes shape_at reads_from reads_of grow statement_in statement_at declares leaves missing lacks returns declares_at decl_of param_type var_type backwards kids and_form looks look_at ref_at form_of form_at see_at stmt_at types_from fun_of program_of run_of filled bit value_words values_words nodes_words ref_word block gathering frame_words control_words activation_words env_words saved_activations saved_frames head_words activations_of frames_of env_part image value_of values_of nodes_of ref_of operands frames frame_of control_of activation_of frames_held callers_of running_of activations_in frames_in env_of states state_of fit_words bytes_of change_bytes word_bytes record_of changes_at words_at last_number last_bytes has_record earlier log_of leads_to words_before back_to
steps =
    record {
      all = refl;
      three = refl;
      no_step = refl;
      final = refl;
      limits = refl;
      values = refl;
      start = refl;
      raised = refl;
      unfit = (refl, refl);
      no_image = (refl, refl);
    }
