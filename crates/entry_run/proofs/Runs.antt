-- An accepted run, and a refused one.
use mathlib.Core.Path.{◌≡◌, ap, ◌∙◌}
use mathlib.Core.List.{List, ◌++◌}
use Prim.Native.Nat.{ℕ, ◌+◌, ◌≤◌}
use native.Mathlib.Omega.{arith}
use lib.ListN.{length, drop}
use Rattle.spec_language.specs.Check.{accepted, refused}
use Rattle.check_file.specs.declared.Refusal.{Refusal}
use Rattle.spec_machine.specs.Machine.{State}
use Rattle.spec_machine.specs.Run.{run_of}
use Rattle.spec_machine.specs.Fit.{Fit}
use Rattle.spec_machine.specs.File.{program_of}
use Rattle.spec_image.specs.Image.{image}
use Rattle.spec_image.specs.Decode.{state_of}
use Rattle.spec_image.specs.Sizes.{size}
use Rattle.spec_image.proofs.Memory.{held_whole, holds_fit}
use Rattle.spec_answers.specs.Answers.{memory_answer, by_verdict, written, run_from, run_answer, run_memory}
use Rattle.spec_answers.proofs.Questions.{memory_so}
use Rattle.run_loop.specs.declared.Ran.{Ran}
use Rattle.run_loop.specs.declared.Outcome.{Outcome}
use Rattle.run_loop.specs.Runs.{HoldsFit, Ends}
use Rattle.run_loop.proofs.Holding.{words_held}
use Rattle.std.specs.Prelude.{Ok, Err}
use Rattle.entry_run.specs.Replies.{reply_of}

module _ (s m : List ℕ) (a : ℕ) where
  pub run_refused : (r : Refusal) → memory_answer s m ≡ refused r.question r.place r.item → (Err r ≡ reply_of (run_answer s m a)) × (m ≡ run_memory s m a)
  unfolding run_answer run_memory by_verdict written reply_of
  run_refused r e = (rw e, rw e)

  module _ (e : memory_answer s m ≡ accepted) where
    -- the memory holds a fit state
    pub run_held : HoldsFit s m
    run_held = let q = memory_so s m e in words_held s m q.0 q.2

    pub run_room : size ≤ length m
    run_room = (memory_so s m e).1

    pub run_accepted : (r : Ran) (l : List ℕ)
        → ((σ : State) (R : List ℕ) → m ≡ image σ ++ R → Fit (program_of s) σ → Ends 0 (run_of (program_of s) a σ) r.outcome r.steps l R)
        → (Ok r ≡ reply_of (run_answer s m a)) × (l ≡ run_memory s m a)
    unfolding run_answer run_memory by_verdict written reply_of run_from
    run_accepted r l f =
        let q = memory_so s m e in
        let h = holds_fit (program_of s) m q.2 in
        let d = f (state_of m) (drop size m) (held_whole m (state_of m) h.0) h.1 in
        rw e (ap Ok (same r d.outcome_is d.steps_are), d.held)
      where
        same : (r : Ran) {o : Outcome} {n : ℕ} → r.outcome ≡ o → r.steps ≡ 0 + n → r ≡ record { outcome = o; steps = n }
        same r {o} {n} x y =
            let z : r.steps ≡ n = omega (arith, y) in
            ap (λ (k : Outcome). record { outcome = k; steps = r.steps }) x ∙ ap (λ (k : ℕ). record { outcome = o; steps = k }) z
