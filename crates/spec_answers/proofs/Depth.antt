-- More saved callers than the limit: stored memory that has them is refused, and a run that would save one more is Full and stands.
use mathlib.Core.Path.{◌≡◌, sym}
use mathlib.Core.List.{List, []}
use Prim.Native.Nat.{ℕ, suc, ◌+◌, ◌≤◌, ◌<◌}
use native.Mathlib.Omega.{arith}
use lib.ListN.{length, get_or}
use Rattle.spec_language.specs.Check.{accepted, refused, check_of}
use Rattle.spec_machine.specs.Values.{Value}
use Rattle.spec_machine.specs.Machine.{Frame, Control, Saved, RunEnv, running, Rule, Event, Step}
use Rattle.spec_machine.specs.Fit.{caller_limit}
use Rattle.spec_machine.specs.Run.{Full, full, run_of}
use Rattle.spec_machine.specs.File.{program_of}
use Rattle.spec_machine.proofs.Runs.{runs_are}
use Rattle.spec_image.specs.Decode.{state_of}
use Rattle.spec_image.specs.Sizes.{size}
use Rattle.spec_image.proofs.Memory.{held_whole, holds_fit}
use Rattle.spec_image.proofs.Depth.{deep_unfit}
use Rattle.spec_answers.specs.Answers.{memory_answer, granted, denied, by_verdict, written, run_from, run_answer, run_memory}
use Rattle.spec_answers.proofs.Questions.{memory_so, memory_unfit}

module _ (s m : List ℕ) where
  -- of a running state with more callers, main's empty one included, nothing is told but the refusal, and no word changes
  pub deep_refused : check_of s ≡ accepted → size ≤ length m → get_or m 0 0 ≡ 2 → caller_limit < get_or m 2 0
      → (memory_answer s m ≡ refused 16 0 0) × ((a : ℕ) → (run_answer s m a ≡ denied 16 0 0) × (run_memory s m a ≡ m))
  unfolding run_answer run_memory by_verdict written
  deep_refused e l t h =
      let r = memory_unfit s m e l (deep_unfit (program_of s) m t h) in
      (r, λ a. (rw r, rw r))

  module _ {r : Rule} {v : Event} {c : Control} {α : RunEnv} {f : ℕ} {η : List Value} {K : List Frame} {A : List Saved} where
    -- a run whose next step would save more callers takes no step, answers Full, and no word changes
    pub deeper_full : memory_answer s m ≡ accepted → Step (program_of s) r v (state_of m) (running c α f η K A) → caller_limit < 1 + length A → (a : ℕ)
        → (run_answer s m (suc a) ≡ granted (record { outcome = Full; steps = 0; state = state_of m })) × (run_memory s m (suc a) ≡ m)
    unfolding run_answer run_memory by_verdict written run_from
    deeper_full e p h a =
        let q = runs_are {h = []} {a = suc a} (full p (λ w. absurd (omega (arith, w.0)))) in
        let k = held_whole m (state_of m) (holds_fit (program_of s) m (memory_so s m e).2).0 in
        (rw (e, q), rw (e, q) (sym k))
