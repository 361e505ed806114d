-- What holds of every accepted file and every fit state, in the words of the demands.
use mathlib.Core.Path.{◌≡◌, refl}
use mathlib.Core.List.{List}
use Prim.Native.Nat.{ℕ, ◌<◌}
use lib.ListN.{get_or}
use Rattle.spec_language.specs.Check.{accepted, check_of}
use Rattle.spec_machine.specs.Machine.{State, main_call, Rule, Event, Step}
use Rattle.spec_machine.specs.Fit.{WithinLimits, Fit}
use Rattle.spec_machine.specs.Run.{carry, ReadsHeld, all_held, Going, run_of}
use Rattle.spec_machine.specs.File.{program_of}
use Rattle.spec_machine.specs.Applies.{One}
use Rattle.spec_machine.specs.Typed.{Typed}
use Rattle.spec_machine.proofs.Files.{accepted_program}
use Rattle.spec_machine.proofs.KeepWords.{file_words, words_kept}
use Rattle.spec_machine.proofs.Keep.{keep}
use Rattle.spec_machine.proofs.Progress.{exactly_one, final_none, start_fit}
use Rattle.spec_machine.proofs.History.{carried, reads_held}
use Rattle.spec_machine.proofs.Typed.{typed}
use Rattle.spec_machine.proofs.Runs.{Good, ran}

-- a file is a list of bytes
module _ (s : List ℕ) (bytes : (i : ℕ) → get_or s i 0 < 256) (passed : check_of s ≡ accepted) where
  -- the start is fit
  pub starts_fit : Fit (program_of s) main_call
  starts_fit = start_fit (accepted_program s passed)

  -- "a final outcome or exactly one rule applies", within the limits or past them
  pub one_applies : (σ : State) → Fit (program_of s) σ → Going σ → One (program_of s) σ
  one_applies σ h g = exactly_one (accepted_program s passed) σ h.proper g

  -- a final state has no rule
  pub final_stops : {r : Rule} {v : Event} {σ τ : State} → ¬ Going σ → Step (program_of s) r v σ τ → ⊥
  final_stops n k = final_none n k

  -- the state that a rule gives is fit when it keeps the limits
  pub stays_fit : {r : Rule} {v : Event} {σ τ : State} → Fit (program_of s) σ → Step (program_of s) r v σ τ → WithinLimits τ → Fit (program_of s) τ
  stays_fit h k w =
      record { words = words_kept (program_of s) (file_words s bytes) k h.words; within = w; proper = keep (accepted_program s passed) k h.proper }

  -- "every value held in a variable or in unfinished work has its declared type"
  pub values_typed : (σ : State) → Fit (program_of s) σ → Typed (program_of s) σ
  values_typed σ h = typed (program_of s) σ h

  -- "no step of any of these runs has read a variable without a value", judged by the history of assign, entry and decl
  pub reads_full : {r : Rule} {v : Event} {σ τ : State} → Fit (program_of s) σ → Step (program_of s) r v σ τ → ReadsHeld v (all_held σ)
  reads_full h k = reads_held (accepted_program s passed) k h.proper

  -- and the history after the step is what the state then holds
  pub history_held : {r : Rule} {v : Event} {σ τ : State} → Fit (program_of s) σ → Step (program_of s) r v σ τ → carry v (all_held σ) ≡ all_held τ
  history_held h k = carried (accepted_program s passed) k h.proper

  -- a run goes rule by rule to where it must stop, reads no empty variable on the way, and ends in a fit state
  pub runs_well : (a : ℕ) (σ : State) → Fit (program_of s) σ → Good (program_of s) σ (all_held σ) a (run_of (program_of s) a σ)
  runs_well a σ h = ran (accepted_program s passed) (file_words s bytes) a σ (all_held σ) h refl
