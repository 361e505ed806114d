-- A run begun with main().
use mathlib.Core.Path.{◌≡◌, refl, sym, ap, subst, ◌∙◌}
use mathlib.Core.List.{List, [], ◌++◌}
use mathlib.Core.Option.{none}
use Prim.Native.Nat.{ℕ, ◌+◌, ◌*◌, ◌-◌, ◌<◌}
use native.Mathlib.Nat.{sub-zero}
use native.Mathlib.Omega.{arith}
use lib.ListN.{length, get_or, set, replicate, length-set}
use Rattle.records.specs.Fields.{functions, params_of, vars_of, count_of}
use Rattle.records.specs.Parts.{start_of, part_of, Laid}
use Rattle.spec_language.specs.Check.{accepted, check_of}
use Rattle.spec_language.specs.Types as types
use Rattle.spec_language.proofs.Accept.{accepted_is, header, parts}
use Rattle.spec_machine.specs.Values.{nothing}
use Rattle.spec_machine.specs.Program.{Program}
use Rattle.spec_machine.specs.Machine as machine
use Rattle.spec_machine.specs.Machine.{RunEnv, State, calling, exec, running, entered, Step, call_entry}
use Rattle.spec_machine.specs.Next.{goes, next}
use Rattle.spec_machine.specs.Run.{run_of}
use Rattle.spec_machine.specs.Fit.{Fit}
use Rattle.spec_machine.specs.File.{fun_of, program_of}
use Rattle.spec_machine.proofs.Operands.{types_length}
use Rattle.spec_machine.proofs.Files.{accepted_program}
use Rattle.spec_machine.proofs.Safety.{stays_fit}
use Rattle.spec_image.specs.Layout.{env_words}
use Rattle.spec_image.specs.Image.{saved_frames, env_part, image}
use Rattle.spec_image.specs.Core.{core}
use Rattle.spec_image.proofs.Heads.{Resting, clear_rest}
use Rattle.state_words.specs.declared.Control.TheVariants.{Exec}
use Rattle.spec_image.specs.Decode.{ref_of}
use Rattle.state_words.specs.Meaning.{control_is}
use Rattle.run_rules.specs.StepsTo.{Describes}
use Rattle.records.specs.Starts.{Starts}
use Rattle.run_rules.proofs.Entries.{entered_none}
use Rattle.run_step.specs.StepsBy.{AtFitState}
use Rattle.run_loop.specs.declared.Outcome.{Outcome}
use Rattle.run_loop.specs.declared.Outcome.TheVariants.{Spent}
use Rattle.run_loop.specs.Runs.{outcome_of, Ends, Emptied}
use Rattle.run_loop.proofs.Ending.{ends_step}

-- the head of a state without activations is taken out
pub cleared : (σ : State) (l R : List ℕ) → Resting σ → l ≡ image σ ++ R → Emptied (set (set l 0 0) 1 0) (env_part σ ++ R)
cleared σ l R rest e z all = rw e (clear_rest σ R rest z all)

pub two_set : (l : List ℕ) → length (set (set l 0 0) 1 0) ≡ length l
two_set l = simp length-set

-- with no allowance
pub main_spent : (P : Program) (n : ℕ) (α : RunEnv) (l R : List ℕ) → n ≡ 0 → l ≡ image (calling α none) ++ R → Ends 0 (run_of P n (calling α none)) Spent 0 l R
unfolding run_of outcome_of
main_spent P n α l R z e = rw z (record { outcome_is = refl; steps_are = refl; held = e })

module _ (s : List ℕ) (passed : check_of s ≡ accepted) where
  pub file_laid : Laid s
  file_laid = parts s (accepted_is s passed)

  pub main_known : 0 < functions s
  main_known = (header s (accepted_is s passed)).some

  main_params : params_of s 0 ≡ 0
  unfolding program_of fun_of
  main_params = sym (types_length (types.var_type s 0 (part_of s 0) (count_of s 0)) (params_of s 0) 0) ∙ ap length (accepted_program s passed).main_takes

  module _ (α : RunEnv) (start : Fit (program_of s) (calling α none)) where
    abbrev entry : State
    entry = running (exec (fun_of s 0).body) α 0 (entered (fun_of s 0) []) [] []

    -- main is entered
    enters_main : next (program_of s) (calling α none) ≡ goes machine.Rule.call_none entry
    unfolding program_of
    enters_main = rw start.proper.0

    entry_fit_lem : ((i : ℕ) → get_or s i 0 < 256) → Fit (program_of s) entry
    unfolding program_of
    entry_fit_lem bytes = stays_fit s bytes passed start entered_by (omega arith, omega arith)
      where
        entered_by : Step (program_of s) machine.Rule.call_none (machine.enters (length ((program_of s).fun α.entry).params)) (calling α none) entry
        entered_by = subst (λ (g : ℕ). Step (program_of s) machine.Rule.call_none (machine.enters (length ((program_of s).fun α.entry).params)) (calling α none) (running (exec ((program_of s).fun g).body) α g (entered ((program_of s).fun g) []) [] [])) start.proper.0 (call_entry {o = none} {α = α})

    module _ (b : ℕ) (body : ref_of b ≡ (fun_of s 0).body) (c : ℕ) (vars : c ≡ vars_of s 0) where
      entry-is : running (control_is (Exec b)) α 0 (replicate c nothing) [] [] ≡ entry
      unfolding control_is
      entry-is = rw (body, vars, entered_none s 0 main_params)

      pub begun_fit : ((i : ℕ) → get_or s i 0 < 256) → Fit (program_of s) (running (control_is (Exec b)) α 0 (replicate c nothing) [] [])
      begun_fit bytes = rw entry-is (entry_fit_lem bytes)

      pub begun_describes : (st n : ℕ) → st ≡ 12 * start_of s 0 → n ≡ count_of s 0 → Describes s (record { function = 0; start = st; count = n; callers = 0; frames = 0; under = 0 }) 0 [] []
      unfolding saved_frames
      begun_describes st n hs hn = record { function = refl; start = hs; count = hn; callers = refl; frames = refl; under = refl }

      pub begun_at_fit : (bytes : (i : ℕ) → get_or s i 0 < 256) (table : List ℕ) (st n : ℕ) (l R : List ℕ) → Starts s table → st ≡ 12 * start_of s 0 → n ≡ count_of s 0
          → l ≡ core 0 (replicate c nothing) [] [] ++ (env_words α ++ R)
          → AtFitState s table (control_is (Exec b)) (record { function = 0; start = st; count = n; callers = 0; frames = 0; under = 0 }) l
      begun_at_fit bytes table st n l R h hs hn e =
          record {
            passed = passed;
            starts = h;
            environment = α;
            variables = replicate c nothing;
            frames = [];
            callers = [];
            rest = R;
            held = e;
            describes = begun_describes st n hs hn;
            fit = begun_fit bytes;
          }

      pub begun_ends : (n : ℕ) (o : Outcome) (st : ℕ) (l R : List ℕ) → 0 < n
          → Ends 1 (run_of (program_of s) (n - 1) (running (control_is (Exec b)) α 0 (replicate c nothing) [] [])) o st l R → Ends 0 (run_of (program_of s) n (calling α none)) o st l R
      begun_ends n o st l R p q =
          rw (sub-zero n) at (ends_step (program_of s) n 0 (calling α none) entry machine.Rule.call_none p enters_main refl (rw entry-is at q))
